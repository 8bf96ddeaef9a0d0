-- What a parse says of the words.
use Rattle.std.proofs.Common.{◌≡◌, ◌||◌, Bool, true, false, List, [], ◌∷◌, Option, Some, None, refl, sym, ap, ap₂, subst, ◌∙◌, inl, inr, map}
use Rattle.std.specs.Prelude.{codes, is_some, if◌then◌else◌, option_and_then, string_bytes, String, unwrap_or}
use Rattle.std.proofs.lemmas.Str.{IsUtf8-string_bytes}
use Rattle.clap.proofs.WalkLemmas.{one_text-rows, raw_values-rows}
use Rattle.clap.specs.Faults.{built_fault, default_fault, defaults_fault, entered_fault, fault_of, is_simple_and_free, level_fault, settle_fault, walk_fault}
use Rattle.clap.specs.Kinds.{HasKind, Kinds, or_else}
use Rattle.clap.specs.Simple.{App, HasMatchesOf, entered, is_simple, matches_of, names_of}
use Rattle.clap.specs.Walk.{Held, Row, Rule, Text, finished, has_row, idle, rows_after, nothing_held, one_of, row_text, rows_of, settled, walk, with_default, with_values}
use Rattle.clap.specs.Words.{found_of, kind_of, one_text}
use Rattle.clap.specs.declared.builder.value_parser.Reading.TheVariants as how
use Rattle.clap.specs.declared.error.Error.{Error}
use Rattle.clap.specs.declared.error.kind.ErrorKind.TheVariants as error
use Rattle.clap.specs.declared.parser.matches.ArgMatches.{ArgMatches}
use Rattle.clap.specs.declared.parser.matches.ValueSource.TheVariants.{DefaultValue}
use Rattle.rela_words.specs.Words.{Parts}
use Rattle.rela_words.specs.Parts.{GiveJust, GiveNothing, options_app, values_of}
use Rattle.rela_words.proofs.WordKinds.{Word}
use Rattle.rela_words.proofs.Meets.{AreTexts, all_meets, is_none, joined_nothing, values_in}
use Rattle.rela_words.proofs.Readings.{give_read, reading}
use Rattle.rela_words.proofs.Rows.{has_find, one_row, other_row, row_at, values_at}
use Rattle.rela_words.proofs.Shapes.{blame_built, built_app, built_is, operands_built, rules, simple, states_built, top}
use Rattle.rela_words.proofs.Walks.{Meets, Shows, last, total, walk_at}

pub texts_of : {Z : Type 0} (words : List (String Z)) → AreTexts (map string_bytes words)
texts_of [] = tt
texts_of (w ∷ ws) = (IsUtf8-string_bytes w, texts_of ws)

-- ---- what is refused

same_either : {X : Type 0} (b : Bool) (x : X) → (if b then x else x) ≡ x
same_either true x = refl
same_either false x = refl

or_nothing : (k : Kinds) → or_else k [] ≡ k
or_nothing [] = refl
or_nothing (k ∷ ks) = refl

-- no default is refused
no_default : (b : Bool) (k : Kinds) → (if b || true then [] else k) ≡ []
no_default true k = refl
no_default false k = refl

abbrev no_kinds : Kinds
no_kinds = []

given_default : (b : Bool) → (if b || false then [] else no_kinds) ≡ no_kinds
given_default true = refl
given_default false = refl

defaults_on : (a : Rule) (rows : List Row) (rest : List Rule) → default_fault rows a ≡ [] → defaults_fault rows (a ∷ rest) ≡ defaults_fault (with_default rows a) rest
unfolding defaults_fault
defaults_on a rows rest passes = ap (λ k. or_else k (defaults_fault (with_default rows a) rest)) passes

defaults_end : (rows : List Row) → defaults_fault rows [] ≡ []
unfolding defaults_fault
defaults_end rows = refl

defaults_pass : (rows : List Row) → defaults_fault rows rules ≡ []
defaults_pass rows =
    let first = with_default rows states_built in
    let second = with_default first blame_built in
    defaults_on states_built rows (blame_built ∷ operands_built ∷ []) (no_default (has_row (codes "states") rows) _)
    ∙ defaults_on blame_built first (operands_built ∷ []) (given_default (has_row (codes "blame") first))
    ∙ defaults_on operands_built second [] (no_default (has_row (codes "operands") second) _)
    ∙ defaults_end (with_default second operands_built)

not_entered : (stop : Option (Text × List Text)) → entered built_app stop ≡ None
not_entered None = refl
not_entered (Some p) = refl

no_entry_fault : (stop : Option (Text × List Text)) → entered_fault built_app stop ≡ []
no_entry_fault None = refl
no_entry_fault (Some p) = refl

fault_is : (words : List Word) → fault_of options_app words ≡ total (walk_at [] None idle false) words
unfolding options_app
fault_is words =
    let end = walk rules [] nothing_held words in
    ap (λ (a : App). built_fault a nothing_held words) built_is
    ∙ ap₂ (λ (b : Bool) (k : Kinds). level_fault top [] nothing_held words b k) (ap is_some (not_entered end.stopped)) (no_entry_fault end.stopped)
    ∙ ap (λ k. or_else (walk_fault top [] (walk_at [] None idle false) words) (or_else (settle_fault rules false end.held) (or_else k []))) (defaults_pass (settled rules end.held).rows)
    ∙ ap (λ k. or_else (walk_fault top [] (walk_at [] None idle false) words) k) (or_nothing (settle_fault rules false end.held))

-- ---- the rows at the end

finished_is : (h : Held) → finished rules h ≡ with_default (settled rules h).rows blame_built
finished_is h =
    let rows = (settled rules h).rows in
    ap (λ r. with_default (with_default r blame_built) operands_built) (same_either (has_row (codes "states") rows) rows)
    ∙ same_either (has_row (codes "operands") (with_default rows blame_built)) (with_default rows blame_built)

matches_are : (words : List Word) → matches_of options_app words ≡ with_default (last (walk_at [] None idle false) words) blame_built
unfolding options_app
matches_are words =
    ap (λ (a : App). rows_after a.top.rules (names_of a) words) built_is ∙ finished_is (walk rules [] nothing_held words).held

abbrev flag_text : Bool → Text
flag_text set = if set then codes "true" else codes "false"

-- the rows with the default of the flag
record Ends (rows : List Row) (p : Parts) : Type 0 where
  operands : values_at (codes "operands") rows ≡ p.operands
  limits : values_at (codes "states") rows ≡ p.limits
  flag : one_of (codes "blame") rows ≡ Some (flag_text p.blame)

ends_shown : (rows : List Row) (p : Parts) → Shows rows p → Ends (with_default rows blame_built) p
ends_shown rows p s = by p.blame refl
  where
    given : p.blame ≡ true → Ends rows p
    given is = record {
      operands = s.operands;
      limits = s.limits;
      flag = s.flag ∙ ap (λ x. if x then Some (codes "true") else None) is ∙ ap (λ x. Some (flag_text x)) (sym is);
    }

    unset : p.blame ≡ false → Ends (with_values (codes "blame") how.AsWritten DefaultValue (codes "false" ∷ []) rows) p
    unset is =
        let kept = other_row (codes "blame") how.AsWritten DefaultValue (codes "false" ∷ []) in
        let none_there : row_at (codes "blame") rows ≡ None = is_none (row_at (codes "blame") rows) (sym (has_find (codes "blame") rows) ∙ s.has ∙ is) in
        record {
          operands = ap values_in (kept (codes "operands") refl rows) ∙ s.operands;
          limits = ap values_in (kept (codes "states") refl rows) ∙ s.limits;
          flag = ap (option_and_then row_text) (one_row (codes "blame") how.AsWritten DefaultValue (codes "false" ∷ []) rows none_there)
              ∙ ap (λ x. Some (flag_text x)) (sym is);
        }

    by : (b : Bool) → p.blame ≡ b → Ends (with_default rows blame_built) p
    by true is = subst (λ (x : Bool). Ends (if x then rows else with_values (codes "blame") how.AsWritten DefaultValue (codes "false" ∷ []) rows) p) (sym (s.has ∙ is)) (given is)
    by false is = subst (λ (x : Bool). Ends (if x then rows else with_values (codes "blame") how.AsWritten DefaultValue (codes "false" ∷ []) rows) p) (sym (s.has ∙ is)) (unset is)

-- ---- what the parse says

-- the parts of the matches, with this flag
abbrev parts_with : ArgMatches → Bool → Parts
parts_with m set = record {
  operands = values_of m (codes "operands");
  limits = values_of m (codes "states");
  blame = set;
}

-- what `get_flag` says of its answer
pub record Tells (text : Option Text) (set : Bool) : Type 0 where
  pub if_true : text ≡ Some (codes "true") → set ≡ true
  pub if_false : text ≡ Some (codes "false") → set ≡ false

told : (text : Option Text) (set b : Bool) → Tells text set → text ≡ Some (flag_text b) → b ≡ set
told text set true tells is = sym (tells.if_true is)
told text set false tells is = sym (tells.if_false is)

same_parts : (p q : Parts) → p.operands ≡ q.operands → p.limits ≡ q.limits → p.blame ≡ q.blame → p ≡ q
same_parts p q operands limits blame = λ i. record { operands = operands i; limits = limits i; blame = blame i }

found_parts : (m : ArgMatches) (set : Bool) (rows : List Row) (p : Parts) → rows_of (found_of m) ≡ rows → Ends rows p → Tells (one_text (found_of m) (codes "blame")) set
    → p ≡ parts_with m set
found_parts m set rows p are ends tells =
    same_parts p (parts_with m set)
    (sym (ap (λ o. unwrap_or o []) (raw_values-rows (found_of m) (codes "operands")) ∙ ap (values_at (codes "operands")) are ∙ ends.operands))
    (sym (ap (λ o. unwrap_or o []) (raw_values-rows (found_of m) (codes "states")) ∙ ap (values_at (codes "states")) are ∙ ends.limits))
    (told (one_text (found_of m) (codes "blame")) set p.blame tells (one_text-rows (found_of m) (codes "blame") ∙ ap (one_of (codes "blame")) are ∙ ends.flag))

is_simple_too : is_simple options_app ≡ true
unfolding options_app
is_simple_too = refl

module _ (app : App) (words : List Word) (is : app ≡ options_app) (texts : AreTexts words) where
  meets : Meets (walk_at [] None idle false) words (reading false words)
  meets = subst (λ (r : Option Parts). Meets (walk_at [] None idle false) words r) (joined_nothing (reading false words)) (all_meets words texts)

  free : is_simple_and_free app ≡ true
  free = ap is_simple_and_free is ∙ simple

  fault : fault_of app words ≡ total (walk_at [] None idle false) words
  fault = ap (λ (a : App). fault_of a words) is ∙ fault_is words

  read_just : (p : Parts) → reading false words ≡ Some p → GiveJust words p
  read_just p read q = (
    λ g. (let both : Some q ≡ Some p = sym ((give_read words q).0 g) ∙ read in let same : q ≡ p = cc in same),
    λ same. (give_read words q).1 (read ∙ ap Some (sym same)),
  )

  pub matched : (m : ArgMatches) (set : Bool) → Tells (one_text (found_of m) (codes "blame")) set → (is_simple_and_free app ≡ true → fault_of app words ≡ [])
      → HasMatchesOf app words m → GiveJust words (parts_with m set)
  matched m set tells passes has = by (reading false words) refl meets
    where
      by : (r : Option Parts) → reading false words ≡ r → Meets (walk_at [] None idle false) words r → GiveJust words (parts_with m set)
      by None read fails = absurd (fails (sym fault ∙ passes free))
      by (Some p) read shown =
          let rows : rows_of (found_of m) ≡ with_default (last (walk_at [] None idle false) words) blame_built =
          (has (ap is_simple is ∙ is_simple_too)).0 ∙ ap (λ (a : App). matches_of a words) is ∙ matches_are words in
          let ends : Ends (with_default (last (walk_at [] None idle false) words) blame_built) p = ends_shown (last (walk_at [] None idle false) words) p shown.1 in
          subst (λ (q : Parts). GiveJust words q) (found_parts m set _ p rows ends tells) (read_just p read)

  pub refused : (e : Error) → (is_simple_and_free app ≡ true → HasKind (fault_of app words) e) → (kind_of e ≡ error.OutOfMemory → ⊥) → GiveNothing words
  refused e fails other p gives = by (fault_of app words) refl (fails free)
    where
      passes : fault_of app words ≡ []
      passes = fault ∙ (subst (λ (r : Option Parts). Meets (walk_at [] None idle false) words r) ((give_read words p).0 gives) meets).0

      by : (kinds : Kinds) → fault_of app words ≡ kinds → HasKind kinds e → ⊥
      by kinds are (inl memory) = other memory
      by [] are (inr among) = among
      by (k ∷ ks) are (inr among) = absurd (let both : k ∷ ks ≡ [] = sym are ∙ passes in cc)
