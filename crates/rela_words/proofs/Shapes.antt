-- The option, the flag and the operands as `clap` builds them, and what it makes of a plain word and of one that is none of
-- its own.
use Rattle.std.proofs.Common.{◌≡◌, ◌≢◌, ℕ, ◌<◌, ◌≤◌, ◌⊎◌, ◌++◌, ◌==◌, ◌&&◌, Bool, true, false, List, [], ◌∷◌, length, get_or, Option, Some, None, inl, inr, refl, sym, ap, subst, ◌∙◌}
use Rattle.std.specs.Prelude.{codes, slice_get}
use Rattle.std.specs.Char.{encode_utf8}
use Rattle.std.specs.List.{after_first, before_first, position_or_len}
use Rattle.std.specs.Str.{IsUtf8, bytes_eq, chars, encode_utf8_all}
use Rattle.std.proofs.lemmas.Bool.{cases_lt, eqb-true}
use Rattle.std.proofs.lemmas.List.{take_all}
use Rattle.std.proofs.lemmas.List.Sums.{passes_at_first, split_at_first}
use Rattle.std.proofs.lemmas.Str.{IsUtf8-past_char, chars_from_encodes}
use Rattle.std.proofs.lemmas.Slice.Eq.{bytes_eq-Decides}
use Rattle.clap.specs.Faults.{bundle_fault, flags_fault, is_simple_and_free, long_fault, other_fault}
use Rattle.clap.specs.Kinds.{Kinds}
use Rattle.clap.specs.Lexer.{long_of, name_and_value, short_of}
use Rattle.clap.specs.Simple.{App, Shape, built, new_shape}
use Rattle.clap.specs.declared.error.kind.ErrorKind.TheVariants as kind
use Rattle.clap.specs.Walk.{Held, Rule, arg_by_long, Text, Waiting, idle, option, positional, subcommand_met}
use Rattle.clap.specs.declared.builder.value_parser.ValueParser.TheVariants as vp
use Rattle.rela_words.specs.Words.{is_plain}
use Rattle.rela_words.specs.Parts.{blame_rule, operands_rule, options_app, states_rule}
use Rattle.rela_words.proofs.WordKinds.{Word, IsBad}

-- ---- the rules, as built

abbrev pub states_built : Rule
states_built = record states_rule { parser = Some vp.String; range = Some (record { start_inclusive = 1; end_inclusive = 1 }) }

abbrev pub blame_built : Rule
blame_built = record blame_rule {
  defaults = codes "false" ∷ [];
  missing = codes "true" ∷ [];
  parser = Some vp.Bool;
  range = Some (record { start_inclusive = 0; end_inclusive = 0 });
}

abbrev pub operands_built : Rule
operands_built = record operands_rule {
  index = Some 1;
  parser = Some vp.String;
  range = Some (record { start_inclusive = 1; end_inclusive = 1 });
}

abbrev pub rules : List Rule
rules = states_built ∷ blame_built ∷ operands_built ∷ []

abbrev pub top : Shape
top = record (new_shape (codes "rela")) {
  rules = rules;
  no_binary_name = true;
  disable_help_flag = true;
  disable_help_subcommand = true;
  is_built = true;
}

abbrev pub built_app : App
built_app = record { top = top; subs = [] }

pub built_is : built options_app ≡ built_app
unfolding options_app
built_is = refl

pub simple : is_simple_and_free options_app ≡ true
unfolding options_app
simple = refl

-- ---- words

pub subcommand_none : (waiting : Waiting) (w : Word) → subcommand_met [] waiting w ≡ None
subcommand_none idle w = refl
subcommand_none (option id) w = refl
subcommand_none positional w = refl

pub and_false : (b : Bool) → (b && false) ≡ false
and_false true = refl
and_false false = refl

-- a plain word is no flag
pub record IsNoFlag (w : Word) : Type 0 where
  pub not_dashes : bytes_eq w (45 ∷ 45 ∷ []) ≡ false
  pub not_long : long_of w ≡ None
  pub not_short : short_of w ≡ None

pub no_flag : (w : Word) → is_plain w ≡ true → IsNoFlag w
no_flag [] plain = record { not_dashes = refl; not_long = refl; not_short = refl }
no_flag (x ∷ []) plain = by (x == 45) refl
  where
    by : (b : Bool) → x == 45 ≡ b → IsNoFlag (x ∷ [])
    by true t = record { not_dashes = rw t refl; not_long = rw t refl; not_short = rw t refl }
    by false t = record { not_dashes = rw t refl; not_long = rw t refl; not_short = rw t refl }
no_flag (x ∷ y ∷ ys) plain = by (x == 45) refl
  where
    by : (b : Bool) → x == 45 ≡ b → IsNoFlag (x ∷ y ∷ ys)
    by true t = absurd (let never : false ≡ true = rw t at plain in cc)
    by false t = record { not_dashes = rw t refl; not_long = rw t refl; not_short = rw t refl }

-- where something is refused
abbrev pub IsFault : Kinds → Type 0
IsFault kinds = kinds ≢ []

abbrev pub none_met : Word → Held → Kinds
none_met w h = other_fault top None w h

-- what a word with one dash comes to
first_char : (y : ℕ) (ys : Word) → IsUtf8 (45 ∷ y ∷ ys) → (c : ℕ) × (slice_get (chars (y ∷ ys)) 0 ≡ Some c)
unfolding encode_utf8
first_char y ys text =
    let rest : IsUtf8 (y ∷ ys) = IsUtf8-past_char (45 ∷ y ∷ ys) (y ∷ ys) 45 text refl in
    by rest.0 rest.1.1 rest
  where
    by : (cs : List ℕ) → encode_utf8_all cs ≡ y ∷ ys → IsUtf8 (y ∷ ys) → (c : ℕ) × (slice_get (chars (y ∷ ys)) 0 ≡ Some c)
    by [] e rest = absurd (cc)
    by (c ∷ cs) e rest = (c, ap (λ l. slice_get l 0) (sym (chars_from_encodes (c ∷ cs) (y ∷ ys) rest e)))

bundle_fails : (y : ℕ) (ys : Word) (h : Held) (c : ℕ) → slice_get (chars (y ∷ ys)) 0 ≡ Some c → h.skip ≡ 0
    → IsFault (bundle_fault rules false (y ∷ ys) h)
unfolding flags_fault
bundle_fails y ys h c first none = rw (none, first) (λ e. cc)

-- a name of none of them
long_unknown : (name : Text) (v : Option Text) (h : Held) → bytes_eq (codes "states") name ≡ false → bytes_eq (codes "blame") name ≡ false
    → long_fault rules false (arg_by_long rules name) v h ≡ kind.UnknownArgument ∷ []
long_unknown name v h not_states not_blame = rw (not_states, not_blame) refl

abbrev is_equals : ℕ → Bool
is_equals x = x == 61

-- a text is what stands before its first `=`, or that, `=` and what stands after it
named : (t : Word) → (t ≡ before_first is_equals t) ⊎ (t ≡ before_first is_equals t ++ (61 ∷ after_first is_equals t))
named t = by (cases_lt (position_or_len is_equals t) (length t))
  where
    by : (position_or_len is_equals t < length t) ⊎ (length t ≤ position_or_len is_equals t)
        → (t ≡ before_first is_equals t) ⊎ (t ≡ before_first is_equals t ++ (61 ∷ after_first is_equals t))
    by (inl under) =
        let at : get_or t (position_or_len is_equals t) 0 ≡ 61 = eqb-true _ 61 (passes_at_first is_equals t 0 under) in
        inr (split_at_first is_equals t 0 under ∙ ap (λ x. before_first is_equals t ++ (x ∷ after_first is_equals t)) at)
    by (inr over) = inl (sym (take_all (position_or_len is_equals t) t over))

module _ (y : ℕ) (ys : Word) (bad : IsBad (45 ∷ 45 ∷ y ∷ ys)) (h : Held) where
  abbrev name : Text
  name = before_first is_equals (y ∷ ys)

  states_named : bytes_eq (codes "states") name ≡ true → ⊥
  states_named same = by (named (y ∷ ys))
    where
      is : codes "states" ≡ name
      is = (bytes_eq-Decides (codes "states") name).0 same

      by : (y ∷ ys ≡ name) ⊎ (y ∷ ys ≡ name ++ (61 ∷ after_first is_equals (y ∷ ys))) → ⊥
      by (inl whole) = bad.not_states (ap (λ t. 45 ∷ 45 ∷ t) (whole ∙ sym is))
      by (inr cut) = bad.not_given (after_first is_equals (y ∷ ys)) (ap (λ t. 45 ∷ 45 ∷ t) (cut ∙ ap (λ t. t ++ (61 ∷ after_first is_equals (y ∷ ys))) (sym is)))

  blame_fault : (after : Word) → IsFault (none_met (45 ∷ 45 ∷ (codes "blame" ++ (61 ∷ after))) h)
  blame_fault after e = cc

  blame_named : bytes_eq (codes "blame") name ≡ true → IsFault (none_met (45 ∷ 45 ∷ y ∷ ys) h)
  blame_named same = by (named (y ∷ ys))
    where
      is : codes "blame" ≡ name
      is = (bytes_eq-Decides (codes "blame") name).0 same

      by : (y ∷ ys ≡ name) ⊎ (y ∷ ys ≡ name ++ (61 ∷ after_first is_equals (y ∷ ys))) → IsFault (none_met (45 ∷ 45 ∷ y ∷ ys) h)
      by (inl whole) = absurd (bad.not_flag (ap (λ t. 45 ∷ 45 ∷ t) (whole ∙ sym is)))
      by (inr cut) = subst (λ (t : Word). IsFault (none_met (45 ∷ 45 ∷ t) h)) (sym (cut ∙ ap (λ t. t ++ (61 ∷ after_first is_equals (y ∷ ys))) (sym is))) (blame_fault (after_first is_equals (y ∷ ys)))

  long_fails : IsFault (none_met (45 ∷ 45 ∷ y ∷ ys) h)
  long_fails = by (bytes_eq (codes "states") name) (bytes_eq (codes "blame") name) refl refl
    where
      by : (s b : Bool) → bytes_eq (codes "states") name ≡ s → bytes_eq (codes "blame") name ≡ b → IsFault (none_met (45 ∷ 45 ∷ y ∷ ys) h)
      by true b es eb = absurd (states_named es)
      by false true es eb = blame_named eb
      by false false es eb = subst IsFault (sym (long_unknown name (name_and_value (y ∷ ys)).1 h es eb)) (λ e. cc)

dash_fails : (y : ℕ) (ys : Word) → IsBad (45 ∷ y ∷ ys) → IsUtf8 (45 ∷ y ∷ ys) → (h : Held) → h.skip ≡ 0 → IsFault (none_met (45 ∷ y ∷ ys) h)
dash_fails y ys bad text h none = by (y == 45) refl
  where
    long : (zs : Word) → IsBad (45 ∷ 45 ∷ zs) → IsFault (none_met (45 ∷ 45 ∷ zs) h)
    long [] other = absurd (other.not_dashes refl)
    long (z ∷ zs) other = long_fails z zs other h

    by : (b : Bool) → y == 45 ≡ b → IsFault (none_met (45 ∷ y ∷ ys) h)
    by true t =
        let is : y ≡ 45 = eqb-true y 45 t in
        subst (λ (z : ℕ). IsFault (none_met (45 ∷ z ∷ ys) h)) (sym is) (long ys (subst (λ (z : ℕ). IsBad (45 ∷ z ∷ ys)) is bad))
    by false t =
        let first = first_char y ys text in
        let fails : IsFault (bundle_fault rules false (y ∷ ys) h) = bundle_fails y ys h first.0 first.1 none in
        rw (t, t) fails

-- a word that is none of them is refused
pub bad_fails : (w : Word) → IsBad w → IsUtf8 w → (h : Held) → h.skip ≡ 0 → IsFault (none_met w h)
bad_fails [] bad text h none = absurd (let never : true ≡ false = bad.not_plain in cc)
bad_fails (x ∷ []) bad text h none = absurd (let never : true ≡ false = bad.not_plain in cc)
bad_fails (x ∷ y ∷ ys) bad text h none = by (x == 45) refl
  where
    by : (b : Bool) → x == 45 ≡ b → IsFault (none_met (x ∷ y ∷ ys) h)
    by true t =
        let is : x ≡ 45 = eqb-true x 45 t in
        subst (λ (z : ℕ). IsFault (none_met (z ∷ y ∷ ys) h)) (sym is)
        (dash_fails y ys (subst (λ (z : ℕ). IsBad (z ∷ y ∷ ys)) is bad) (subst (λ (z : ℕ). IsUtf8 (z ∷ y ∷ ys)) is text) h none)
    by false t = absurd (let never : true ≡ false = rw t at bad.not_plain in cc)
