-- `clap` refuses the words that give no parts, and finds the parts of the others.
use Rattle.std.proofs.Common.{◌≡◌, ◌++◌, Bool, true, false, List, [], ◌∷◌, Option, Some, None, refl, sym, ap, subst, ◌∙◌, append_assoc, append-nil}
use Rattle.std.specs.Prelude.{codes, is_some, option_and_then, option_map, unwrap_or}
use Rattle.std.specs.Str.{IsUtf8}
use Rattle.clap.specs.Faults.{turn_fault, walk_fault}
use Rattle.clap.specs.Walk.{Row, Text, Waiting, Walk, idle, positional, row_text, with_values, without}
use Rattle.clap.specs.declared.builder.value_parser.Reading.TheVariants as how
use Rattle.clap.specs.declared.parser.matches.ValueSource.TheVariants.{CommandLine}
use Rattle.rela_words.specs.Words.{Parts, is_plain}
use Rattle.rela_words.proofs.Joins.{flag_join, flag_twice_join, joined, limit_join, more_flag, more_limit, more_operand, more_operands, operand_join, operands_join}
use Rattle.rela_words.proofs.WordKinds.{Word, Kind, Is, kind_of, kind_is}
use Rattle.rela_words.proofs.WordKinds as kind
use Rattle.rela_words.proofs.Readings.{awaited, read_by, reading}
use Rattle.rela_words.proofs.Rows.{has_find, more_values, none_without, one_row, other_row, row_at}
use Rattle.rela_words.proofs.Shapes.{IsFault, no_flag, top}
use Rattle.rela_words.proofs.Walks.{IsResting, Meets, Pending, Shows, awaited_turn, awaited_walked, bad_turn, behind_is, behind_walked, dashes_turn, dashes_walked, flag_fails, flag_turn, flag_twice, flag_walked, for_states, given_fails, given_turn, given_walked, operand_turn, operand_walked, settle, settled_at, states_fails, states_turn, states_walked, total, total_on, turn_fails, turn_on, walk_at, wanting, wanting_fails}

-- the words are texts
abbrev pub AreTexts : List Word → Type 0
AreTexts [] = Unit {0}
AreTexts (w ∷ ws) = IsUtf8 w × AreTexts ws

-- ---- what rows show

abbrev pub values_in : Option Row → List Text
values_in o = unwrap_or (option_map (λ (r : Row). r.values) o) []

pub is_none : (o : Option Row) → is_some o ≡ false → o ≡ None
is_none None e = refl
is_none (Some r) e = absurd (cc)

module _ (rows : List Row) (parts : Parts) (s : Shows rows parts) where
  pub shows_operand : (w : Word) → Shows (with_values (codes "operands") how.AsWritten CommandLine (w ∷ []) rows) (more_operand parts w)
  shows_operand w =
      let kept = other_row (codes "operands") how.AsWritten CommandLine (w ∷ []) in
      let same : row_at (codes "blame") (with_values (codes "operands") how.AsWritten CommandLine (w ∷ []) rows) ≡ row_at (codes "blame") rows = kept (codes "blame") refl rows in
      record {
        operands = more_values (codes "operands") how.AsWritten CommandLine (w ∷ []) rows ∙ ap (λ l. l ++ w ∷ []) s.operands;
        limits = ap values_in (kept (codes "states") refl rows) ∙ s.limits;
        flag = ap (option_and_then row_text) same ∙ s.flag;
        has = has_find (codes "blame") (with_values (codes "operands") how.AsWritten CommandLine (w ∷ []) rows) ∙ ap is_some same ∙ sym (has_find (codes "blame") rows) ∙ s.has;
      }

  pub shows_limit : (w : Word) → Shows (with_values (codes "states") how.AsWritten CommandLine (w ∷ []) rows) (more_limit parts w)
  shows_limit w =
      let kept = other_row (codes "states") how.AsWritten CommandLine (w ∷ []) in
      let same : row_at (codes "blame") (with_values (codes "states") how.AsWritten CommandLine (w ∷ []) rows) ≡ row_at (codes "blame") rows = kept (codes "blame") refl rows in
      record {
        operands = ap values_in (kept (codes "operands") refl rows) ∙ s.operands;
        limits = more_values (codes "states") how.AsWritten CommandLine (w ∷ []) rows ∙ ap (λ l. l ++ w ∷ []) s.limits;
        flag = ap (option_and_then row_text) same ∙ s.flag;
        has = has_find (codes "blame") (with_values (codes "states") how.AsWritten CommandLine (w ∷ []) rows) ∙ ap is_some same ∙ sym (has_find (codes "blame") rows) ∙ s.has;
      }

  pub shows_flag : parts.blame ≡ false → Shows (with_values (codes "blame") how.AsWritten CommandLine (codes "true" ∷ []) (without (codes "blame") rows)) (more_flag parts)
  shows_flag unset =
      let no_row : row_at (codes "blame") rows ≡ None = is_none (row_at (codes "blame") rows) (sym (has_find (codes "blame") rows) ∙ s.has ∙ unset) in
      subst (λ (l : List Row). Shows (with_values (codes "blame") how.AsWritten CommandLine (codes "true" ∷ []) l) (more_flag parts)) (sym (none_without (codes "blame") rows no_row)) (set no_row)
    where
      set : row_at (codes "blame") rows ≡ None → Shows (with_values (codes "blame") how.AsWritten CommandLine (codes "true" ∷ []) rows) (more_flag parts)
      set no_row =
          let kept = other_row (codes "blame") how.AsWritten CommandLine (codes "true" ∷ []) in
          let one = one_row (codes "blame") how.AsWritten CommandLine (codes "true" ∷ []) rows no_row in
          record {
            operands = ap values_in (kept (codes "operands") refl rows) ∙ s.operands;
            limits = ap values_in (kept (codes "states") refl rows) ∙ s.limits;
            flag = ap (option_and_then row_text) one;
            has = has_find (codes "blame") (with_values (codes "blame") how.AsWritten CommandLine (codes "true" ∷ []) rows) ∙ ap is_some one;
          }

-- ---- behind `--`

behind_meets : (ws : List Word) (rows : List Row) (pending : Pending) (waiting : Waiting) (parts : Parts) → settle rows pending ≡ [] → Shows (settled_at rows pending) parts
    → Meets (walk_at rows pending waiting true) ws (Some (more_operands parts ws))
unfolding walk_fault
behind_meets [] rows pending waiting parts settles shows =
    (settles, subst (λ (l : List Word). Shows (settled_at rows pending) (record parts { operands = l })) (sym (append-nil parts.operands)) shows)
behind_meets (w ∷ ws) rows pending waiting parts settles shows =
    turn_on (walk_at rows pending waiting true) w ws (walk_at (settled_at rows pending) (Some (codes "operands", w ∷ [])) positional true)
    (behind_is rows pending waiting w ∙ settles) (behind_walked rows pending waiting w) (Some (more_operands parts (w ∷ ws)))
    (subst (λ (l : List Word). Meets (walk_at (settled_at rows pending) (Some (codes "operands", w ∷ [])) positional true) ws (Some (record parts { operands = l })))
    (append_assoc parts.operands (w ∷ []) ws)
    (behind_meets ws (settled_at rows pending) (Some (codes "operands", w ∷ [])) positional (more_operand parts w) refl (shows_operand (settled_at rows pending) parts shows w)))

behind_fails : (ws : List Word) (rows : List Row) (pending : Pending) (waiting : Waiting) → IsFault (settle rows pending) → IsFault (total (walk_at rows pending waiting true) ws)
unfolding walk_fault
behind_fails [] rows pending waiting fault = fault
behind_fails (w ∷ ws) rows pending waiting fault =
    turn_fails (walk_at rows pending waiting true) w ws (subst IsFault (sym (behind_is rows pending waiting w)) fault)

-- ---- before it

-- where no option waits for a word, what is pending can be used, and then the rows show these parts
record Free (rows : List Row) (pending : Pending) (waiting : Waiting) (parts : Parts) : Type 0 where
  settles : settle rows pending ≡ []
  rests : IsResting waiting
  shows : Shows (settled_at rows pending) parts

abbrev Claim : Bool → List Word → Type 0
Claim false ws = (rows : List Row) (pending : Pending) (waiting : Waiting) (parts : Parts) → Free rows pending waiting parts
    → Meets (walk_at rows pending waiting false) ws (joined parts (reading false ws))
Claim true ws = (rows : List Row) (parts : Parts) → Shows rows parts → Meets (walk_at rows wanting for_states false) ws (joined parts (reading true ws))

module _ (w : Word) (ws : List Word) (text : IsUtf8 w) (awaiting : Claim true ws) (free : Claim false ws) where
  module _ (rows : List Row) (pending : Pending) (waiting : Waiting) (parts : Parts) (f : Free rows pending waiting parts) where
    abbrev here : Walk
    here = walk_at rows pending waiting false

    abbrev now : List Row
    now = settled_at rows pending

    abbrev what : Kind → Option Parts
    what k = read_by k w ws (reading true ws) (reading false ws)

    flag_meets : (b : Bool) → parts.blame ≡ b → w ≡ codes "--blame" → Meets here (w ∷ ws) (joined parts (what kind.flag))
    flag_meets true set is =
        subst (λ (r : Option Parts). Meets here (w ∷ ws) r) (sym (flag_twice_join parts set (reading false ws)))
        (turn_fails here w ws (subst (λ (v : Word). IsFault (turn_fault top [] here v)) (sym is) (flag_twice rows pending waiting (f.shows.has ∙ set))))
    flag_meets false unset is =
        subst (λ (v : Word). Meets here (v ∷ ws) (joined parts (what kind.flag))) (sym is)
        (turn_on here (codes "--blame") ws _ (flag_turn rows pending waiting f.settles (f.shows.has ∙ unset)) (flag_walked rows pending waiting) (joined parts (what kind.flag))
        (subst (λ (r : Option Parts). Meets (walk_at (with_values (codes "blame") how.AsWritten CommandLine (codes "true" ∷ []) (without (codes "blame") now)) None idle false) ws r)
        (flag_join parts unset (reading false ws))
        (free (with_values (codes "blame") how.AsWritten CommandLine (codes "true" ∷ []) (without (codes "blame") now)) None idle (more_flag parts)
        (record { settles = refl; rests = tt; shows = shows_flag now parts f.shows unset }))))

    word_meets : (k : Kind) → Is k w → Meets here (w ∷ ws) (joined parts (what k))
    word_meets kind.plain is =
        turn_on here w ws _ (operand_turn rows pending waiting f.settles w f.rests (no_flag w is)) (operand_walked rows pending waiting w f.rests (no_flag w is))
        (joined parts (what kind.plain))
        (subst (λ (r : Option Parts). Meets (walk_at now (Some (codes "operands", w ∷ [])) positional false) ws r) (operand_join parts w (reading false ws))
        (free now (Some (codes "operands", w ∷ [])) positional (more_operand parts w)
        (record { settles = refl; rests = tt; shows = shows_operand now parts f.shows w })))
    word_meets kind.dashes is =
        subst (λ (v : Word). Meets here (v ∷ ws) (joined parts (what kind.dashes))) (sym is)
        (turn_on here (codes "--") ws _ (dashes_turn rows pending waiting) (dashes_walked rows pending waiting) (joined parts (what kind.dashes))
        (subst (λ (r : Option Parts). Meets (walk_at rows pending waiting true) ws r) (sym (operands_join parts ws)) (behind_meets ws rows pending waiting parts f.settles f.shows)))
    word_meets kind.states is =
        subst (λ (v : Word). Meets here (v ∷ ws) (joined parts (what kind.states))) (sym is)
        (turn_on here (codes "--states") ws _ (states_turn rows pending waiting f.settles) (states_walked rows pending waiting) (joined parts (what kind.states))
        (awaiting now parts f.shows))
    word_meets (kind.given v) is =
        subst (λ (x : Word). Meets here (x ∷ ws) (joined parts (what (kind.given v)))) (sym is)
        (turn_on here (codes "--states=" ++ v) ws _ (given_turn rows pending waiting f.settles v) (given_walked rows pending waiting v) (joined parts (what (kind.given v)))
        (subst (λ (r : Option Parts). Meets (walk_at (with_values (codes "states") how.AsWritten CommandLine (v ∷ []) now) None idle false) ws r) (limit_join parts v (reading false ws))
        (free (with_values (codes "states") how.AsWritten CommandLine (v ∷ []) now) None idle (more_limit parts v)
        (record { settles = refl; rests = tt; shows = shows_limit now parts f.shows v }))))
    word_meets kind.flag is = flag_meets parts.blame refl is
    word_meets kind.bad is = turn_fails here w ws (bad_turn rows pending waiting w is text)

  module _ (rows : List Row) (parts : Parts) (shows : Shows rows parts) where
    abbrev there : Walk
    there = walk_at rows wanting for_states false

    no_word : (k : Kind) → Is k w → is_plain w ≡ false → IsFault (total there (w ∷ ws))
    no_word kind.plain is unplain = absurd (let both : true ≡ false = sym is ∙ unplain in cc)
    no_word kind.dashes is unplain =
        subst (λ (v : Word). IsFault (total there (v ∷ ws))) (sym is)
        (subst IsFault (sym (total_on there (codes "--") ws (walk_at rows wanting for_states true) (dashes_turn rows wanting for_states) (dashes_walked rows wanting for_states)))
        (behind_fails ws rows wanting for_states (wanting_fails rows)))
    no_word kind.states is unplain =
        subst (λ (v : Word). IsFault (total there (v ∷ ws))) (sym is) (turn_fails there (codes "--states") ws (states_fails rows wanting for_states (wanting_fails rows)))
    no_word (kind.given v) is unplain =
        subst (λ (x : Word). IsFault (total there (x ∷ ws))) (sym is) (turn_fails there (codes "--states=" ++ v) ws (given_fails rows wanting for_states (wanting_fails rows) v))
    no_word kind.flag is unplain =
        subst (λ (v : Word). IsFault (total there (v ∷ ws))) (sym is) (turn_fails there (codes "--blame") ws (flag_fails rows wanting for_states (wanting_fails rows)))
    no_word kind.bad is unplain = turn_fails there w ws (bad_turn rows wanting for_states w is text)

    awaited_meets : (b : Bool) → is_plain w ≡ b → Meets there (w ∷ ws) (joined parts (awaited b w (reading false ws)))
    awaited_meets true plain =
        turn_on there w ws _ (awaited_turn rows w (no_flag w plain)) (awaited_walked rows w (no_flag w plain)) (joined parts (awaited true w (reading false ws)))
        (subst (λ (r : Option Parts). Meets (walk_at rows (Some (codes "states", w ∷ [])) idle false) ws r) (limit_join parts w (reading false ws))
        (free rows (Some (codes "states", w ∷ [])) idle (more_limit parts w) (record { settles = refl; rests = tt; shows = shows_limit rows parts shows w })))
    awaited_meets false unplain = no_word (kind_of w) (kind_is w) unplain

claims : (waits : Bool) (ws : List Word) → AreTexts ws → Claim waits ws
unfolding reading walk_fault
claims false [] texts = λ rows pending waiting parts f.
    subst (λ (r : Option Parts). Meets (walk_at rows pending waiting false) [] r) (sym (operands_join parts []))
    (f.settles, subst (λ (l : List Word). Shows (settled_at rows pending) (record parts { operands = l })) (sym (append-nil parts.operands)) f.shows)
claims true [] texts = λ rows parts shows. wanting_fails rows
claims false (w ∷ ws) texts = λ rows pending waiting parts f.
    word_meets w ws texts.0 (claims true ws texts.1) (claims false ws texts.1) rows pending waiting parts f (kind_of w) (kind_is w)
claims true (w ∷ ws) texts = λ rows parts shows.
    awaited_meets w ws texts.0 (claims true ws texts.1) (claims false ws texts.1) rows parts shows (is_plain w) refl

abbrev pub no_parts : Parts
no_parts = record { operands = []; limits = []; blame = false }

-- what the words give, from the first on
pub all_meets : (ws : List Word) → AreTexts ws → Meets (walk_at [] None idle false) ws (joined no_parts (reading false ws))
all_meets ws texts = claims false ws texts [] None idle no_parts (record {
  settles = refl;
  rests = tt;
  shows = record { operands = refl; limits = refl; flag = refl; has = refl };
})

pub joined_nothing : (r : Option Parts) → joined no_parts r ≡ r
joined_nothing None = refl
joined_nothing (Some p) = refl
