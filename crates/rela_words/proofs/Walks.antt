-- What `clap` makes of words: where it refuses them, and the rows that it finds.
use Rattle.std.proofs.Common.{◌≡◌, ◌++◌, ◌&&◌, Bool, true, false, List, [], ◌∷◌, Option, Some, None, refl, sym, ap, subst, ◌∙◌}
use Rattle.std.specs.Prelude.{codes, fold, if◌then◌else◌}
use Rattle.std.specs.Option.{option_map_or}
use Rattle.std.specs.Str.{IsUtf8}
use Rattle.clap.specs.Faults.{bundle_fault, flag_word_fault, other_fault, settle_fault, step_fault, turn_fault, use_fault, walk_fault}
use Rattle.clap.specs.Kinds.{Kinds, or_else}
use Rattle.clap.specs.Walk.{Held, Row, Step, Text, Walk, Waiting, idle, option, positional, after_step, has_row, is_pending, long_or_other, one_of, plain_word, pushed, settled, settled_rows, short_or_plain, subcommand_or_other, trailing, value, walked, with_values, without}
use Rattle.clap.specs.Lexer.{long_of}
use Rattle.clap.specs.declared.builder.value_parser.Reading.TheVariants as how
use Rattle.clap.specs.declared.error.kind.ErrorKind.TheVariants as error
use Rattle.clap.specs.declared.parser.matches.ValueSource.TheVariants.{CommandLine}
use Rattle.rela_words.specs.Words.{Parts}
use Rattle.rela_words.proofs.WordKinds.{Word, IsBad}
use Rattle.rela_words.proofs.Rows.{values_at}
use Rattle.rela_words.proofs.Shapes.{IsFault, IsNoFlag, and_false, bad_fails, blame_built, none_met, operands_built, rules, subcommand_none, top}

-- ---- places of the walk

abbrev pub Pending : Type 0
Pending = Option (Text × List Text)

abbrev pub held_at : List Row → Pending → Held
held_at rows pending = record { rows = rows; pending = pending; skip = 0 }

abbrev pub walk_at : List Row → Pending → Waiting → Bool → Walk
walk_at rows pending waiting late = record {
  held = held_at rows pending;
  waiting = waiting;
  position = 1;
  is_trailing = late;
  stopped = None;
}

-- what is refused when the pending argument is used, and the rows then
abbrev pub settle : List Row → Pending → Kinds
settle rows pending = settle_fault rules false (held_at rows pending)

abbrev pub settled_at : List Row → Pending → List Row
settled_at rows pending = settled_rows rules pending rows

-- what is refused up to the end
abbrev pub total : Walk → List Word → Kinds
total w words = or_else (walk_fault top [] w words) (settle_fault rules false (fold (walked rules []) w words).held)

-- the rows at the end
abbrev pub last : Walk → List Word → List Row
last w words =
    settled_at (fold (walked rules []) w words).held.rows
    (fold (walked rules []) w words).held.pending

pub fault_first : (a b : Kinds) → IsFault a → IsFault (or_else a b)
fault_first [] b fault e = fault refl
fault_first (k ∷ ks) b fault e = fault e

pub fault_second : (a b : Kinds) → IsFault b → IsFault (or_else a b)
fault_second [] b fault e = fault e
fault_second (k ∷ ks) b fault e = absurd (cc)

-- ---- one word

-- the parts that rows show
pub record Shows (rows : List Row) (parts : Parts) : Type 0 where
  pub operands : values_at (codes "operands") rows ≡ parts.operands
  pub limits : values_at (codes "states") rows ≡ parts.limits
  pub flag : one_of (codes "blame") rows ≡ (if parts.blame then Some (codes "true") else None)
  pub has : has_row (codes "blame") rows ≡ parts.blame

-- what words give, or that they are refused
abbrev pub Meets : Walk → List Word → Option Parts → Type 0
Meets w words None = IsFault (total w words)
Meets w words (Some parts) = (total w words ≡ []) × Shows (last w words) parts

module _ (w : Walk) (word : Word) (ws : List Word) where
  pub total_on : (after : Walk) → turn_fault top [] w word ≡ [] → walked rules [] w word ≡ after → total w (word ∷ ws) ≡ total after ws
  unfolding walk_fault
  total_on after none is =
      ap (λ t. or_else (or_else t (walk_fault top [] (walked rules [] w word) ws)) (settle_fault rules false (fold (walked rules []) (walked rules [] w word) ws).held)) none
      ∙ ap (λ v. total v ws) is

  pub turn_on : (after : Walk) → turn_fault top [] w word ≡ [] → walked rules [] w word ≡ after → (r : Option Parts) → Meets after ws r → Meets w (word ∷ ws) r
  turn_on after none is None meets = subst IsFault (sym (total_on after none is)) meets
  turn_on after none is (Some parts) meets = (total_on after none is ∙ meets.0, subst (λ v. Shows (last v ws) parts) (sym is) meets.1)

  pub turn_fails : IsFault (turn_fault top [] w word) → IsFault (total w (word ∷ ws))
  unfolding walk_fault
  turn_fails fault = fault_first _ _ (fault_first (turn_fault top [] w word) (walk_fault top [] (walked rules [] w word) ws) fault)

-- ---- a word before `--`

module _ (rows : List Row) (pending : Pending) (waiting : Waiting) (w : Word) where
  abbrev pub met : Option Text → Held × Step
  met o = subcommand_or_other rules o waiting 1 w (held_at rows pending)

  pub turn_is : turn_fault top [] (walk_at rows pending waiting false) w ≡ or_else (none_met w (held_at rows pending)) (step_fault top 1 (met None).0 (met None).1)
  turn_is = ap (λ o. or_else (other_fault top o w (held_at rows pending)) (step_fault top 1 (met o).0 (met o).1)) (subcommand_none waiting w)

  pub walked_is : walked rules [] (walk_at rows pending waiting false) w ≡ after_step rules w (walk_at rows pending waiting false) (met None).0 (met None).1
  unfolding walked
  walked_is = ap (λ o. after_step rules w (walk_at rows pending waiting false) (met o).0 (met o).1) (subcommand_none waiting w)

  -- one that is none of them
  pub bad_turn : IsBad w → IsUtf8 w → IsFault (turn_fault top [] (walk_at rows pending waiting false) w)
  bad_turn bad text = subst IsFault (sym turn_is) (fault_first _ _ (bad_fails w bad text (held_at rows pending) refl))

-- what is refused of the words that use what is pending first
module _ (rows : List Row) (pending : Pending) (waiting : Waiting) (fault : IsFault (settle rows pending)) where
  pub states_fails : IsFault (turn_fault top [] (walk_at rows pending waiting false) (codes "--states"))
  states_fails = subst IsFault (sym (turn_is rows pending waiting (codes "--states"))) (fault_first _ _ fault)

  pub given_fails : (v : Word) → IsFault (turn_fault top [] (walk_at rows pending waiting false) (codes "--states=" ++ v))
  given_fails v = subst IsFault (sym (turn_is rows pending waiting (codes "--states=" ++ v))) (fault_first _ _ (fault_first _ _ fault))

  pub flag_fails : IsFault (turn_fault top [] (walk_at rows pending waiting false) (codes "--blame"))
  flag_fails = subst IsFault (sym (turn_is rows pending waiting (codes "--blame"))) (fault_first _ _ (fault_first _ _ fault))

-- a word that goes to the operands
module _ (rows : List Row) (pending : Pending) (waiting : Waiting) where
  pub value_is : step_fault top 1 (held_at rows pending) value ≡ settle rows pending
  value_is = ap (λ b. if b then [] else settle rows pending) (and_false (is_pending operands_built pending))

  abbrev pub taken : Word → Bool → Bool → Walk
  taken w late both = record {
    held = pushed (codes "operands") w (if both then held_at rows pending else settled rules (held_at rows pending));
    waiting = positional;
    position = 1;
    is_trailing = late;
    stopped = None;
  }

  pub value_walked : (w : Word) (late : Bool) → after_step rules w (walk_at rows pending waiting late) (held_at rows pending) value
      ≡ walk_at (settled_at rows pending) (Some (codes "operands", w ∷ [])) positional late
  value_walked w true = ap (taken w true) (and_false (is_pending operands_built pending))
  value_walked w false = ap (taken w false) (and_false (is_pending operands_built pending))

  pub behind_is : (w : Word) → turn_fault top [] (walk_at rows pending waiting true) w ≡ settle rows pending
  behind_is w = value_is

  pub behind_walked : (w : Word) → walked rules [] (walk_at rows pending waiting true) w ≡ walk_at (settled_at rows pending) (Some (codes "operands", w ∷ [])) positional true
  unfolding walked
  behind_walked w = value_walked w true

-- no option waits for a word
abbrev pub IsResting : Waiting → Type 0
IsResting idle = Unit {0}
IsResting (option id) = ⊥
IsResting positional = Unit {0}

pub resting_plain : (waiting : Waiting) (w : Word) (h : Held) → IsResting waiting → plain_word rules waiting w h ≡ (h, value)
resting_plain idle w h rests = refl
resting_plain (option id) w h rests = absurd rests
resting_plain positional w h rests = refl

-- a word that is no flag
module _ (w : Word) (n : IsNoFlag w) (h : Held) where
  pub plain_none : none_met w h ≡ []
  plain_none =
      ap (λ d. if d then [] else flag_word_fault rules false (long_of w) w h) n.not_dashes ∙ ap (λ l. flag_word_fault rules false l w h) n.not_long
      ∙ ap (λ f. option_map_or (λ flags. bundle_fault rules false flags h) f []) n.not_short

  pub plain_met : (waiting : Waiting) → subcommand_or_other rules None waiting 1 w h ≡ plain_word rules waiting w h
  plain_met waiting =
      ap (λ d. if d then (h, trailing 1) else long_or_other rules waiting w (long_of w) h) n.not_dashes ∙ ap (λ l. long_or_other rules waiting w l h) n.not_long
      ∙ ap (λ f. short_or_plain rules waiting w f h) n.not_short

-- where no option waits for a word, and where what is pending can be used
module _ (rows : List Row) (pending : Pending) (waiting : Waiting) where
  pub dashes_turn : turn_fault top [] (walk_at rows pending waiting false) (codes "--") ≡ []
  dashes_turn = turn_is rows pending waiting (codes "--")

  pub dashes_walked : walked rules [] (walk_at rows pending waiting false) (codes "--") ≡ walk_at rows pending waiting true
  dashes_walked = walked_is rows pending waiting (codes "--")

  pub states_turn : settle rows pending ≡ [] → turn_fault top [] (walk_at rows pending waiting false) (codes "--states") ≡ []
  states_turn settles = turn_is rows pending waiting (codes "--states") ∙ ap (λ k. or_else k []) settles

  pub states_walked : walked rules [] (walk_at rows pending waiting false) (codes "--states") ≡ walk_at (settled_at rows pending) (Some (codes "states", [])) (option (codes "states")) false
  states_walked = walked_is rows pending waiting (codes "--states")

  pub given_turn : settle rows pending ≡ [] → (v : Word) → turn_fault top [] (walk_at rows pending waiting false) (codes "--states=" ++ v) ≡ []
  given_turn settles v = turn_is rows pending waiting (codes "--states=" ++ v) ∙ ap (λ k. or_else (or_else k []) []) settles

  pub given_walked : (v : Word) → walked rules [] (walk_at rows pending waiting false) (codes "--states=" ++ v)
      ≡ walk_at (with_values (codes "states") how.AsWritten CommandLine (v ∷ []) (settled_at rows pending)) None idle false
  given_walked v = walked_is rows pending waiting (codes "--states=" ++ v)

  pub flag_use : (b : Bool) → has_row (codes "blame") (settled_at rows pending) ≡ b → use_fault false blame_built [] (settled_at rows pending)
      ≡ (if b then error.ArgumentConflict ∷ [] else [])
  flag_use true has = ap (λ b. or_else (if b && true then error.ArgumentConflict ∷ [] else []) []) has
  flag_use false has = ap (λ b. or_else (if b && true then error.ArgumentConflict ∷ [] else []) []) has

  pub flag_turn : settle rows pending ≡ [] → has_row (codes "blame") (settled_at rows pending) ≡ false → turn_fault top [] (walk_at rows pending waiting false) (codes "--blame") ≡ []
  flag_turn settles has =
      turn_is rows pending waiting (codes "--blame") ∙ ap (λ k. or_else (or_else k (use_fault false blame_built [] (settled_at rows pending))) []) settles
      ∙ ap (λ k. or_else k []) (flag_use false has)

  pub flag_twice : has_row (codes "blame") (settled_at rows pending) ≡ true → IsFault (turn_fault top [] (walk_at rows pending waiting false) (codes "--blame"))
  flag_twice has =
      subst IsFault (sym (turn_is rows pending waiting (codes "--blame")))
      (fault_first _ _ (fault_second (settle rows pending) (use_fault false blame_built [] (settled_at rows pending))
      (subst IsFault (sym (flag_use true has)) (λ e. cc))))

  pub flag_walked : walked rules [] (walk_at rows pending waiting false) (codes "--blame")
      ≡ walk_at (with_values (codes "blame") how.AsWritten CommandLine (codes "true" ∷ []) (without (codes "blame") (settled_at rows pending))) None idle false
  flag_walked = walked_is rows pending waiting (codes "--blame")

  pub operand_turn : settle rows pending ≡ [] → (w : Word) → IsResting waiting → IsNoFlag w → turn_fault top [] (walk_at rows pending waiting false) w ≡ []
  operand_turn settles w rests n =
      turn_is rows pending waiting w ∙ ap (λ k. or_else k (step_fault top 1 (met rows pending waiting w None).0 (met rows pending waiting w None).1)) (plain_none w n (held_at rows pending))
      ∙ ap (λ m. step_fault top 1 m.0 m.1) (plain_met w n (held_at rows pending) waiting ∙ resting_plain waiting w (held_at rows pending) rests)
      ∙ value_is rows pending waiting ∙ settles

  pub operand_walked : (w : Word) → IsResting waiting → IsNoFlag w
      → walked rules [] (walk_at rows pending waiting false) w ≡ walk_at (settled_at rows pending) (Some (codes "operands", w ∷ [])) positional false
  operand_walked w rests n =
      walked_is rows pending waiting w
      ∙ ap (λ m. after_step rules w (walk_at rows pending waiting false) m.0 m.1)
      (plain_met w n (held_at rows pending) waiting ∙ resting_plain waiting w (held_at rows pending) rests)
      ∙ value_walked rows pending waiting w false

-- where the option waits for a word
abbrev pub wanting : Pending
wanting = Some (codes "states", [])

abbrev pub for_states : Waiting
for_states = option (codes "states")

pub awaited_turn : (rows : List Row) (w : Word) → IsNoFlag w → turn_fault top [] (walk_at rows wanting for_states false) w ≡ []
awaited_turn rows w n =
    turn_is rows wanting for_states w
    ∙ ap (λ k. or_else k (step_fault top 1 (met rows wanting for_states w None).0 (met rows wanting for_states w None).1)) (plain_none w n (held_at rows wanting))
    ∙ ap (λ m. step_fault top 1 m.0 m.1) (plain_met w n (held_at rows wanting) for_states)

pub awaited_walked : (rows : List Row) (w : Word) → IsNoFlag w → walked rules [] (walk_at rows wanting for_states false) w ≡ walk_at rows (Some (codes "states", w ∷ [])) idle false
awaited_walked rows w n =
    walked_is rows wanting for_states w ∙ ap (λ m. after_step rules w (walk_at rows wanting for_states false) m.0 m.1) (plain_met w n (held_at rows wanting) for_states)

pub wanting_fails : (rows : List Row) → IsFault (settle rows wanting)
wanting_fails rows e = cc
