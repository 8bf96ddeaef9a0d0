-- What a word before `--` is.
use Rattle.std.proofs.Common.{◌≡◌, ◌≢◌, ℕ, ◌++◌, ◌==◌, Bool, true, false, List, [], ◌∷◌, Option, Some, None, refl, sym, ap, ◌∙◌}
use Rattle.std.specs.Prelude.{codes, if◌then◌else◌}
use Rattle.std.specs.Str.{bytes_eq}
use Rattle.std.proofs.lemmas.Bool.{eqb-true}
use Rattle.std.proofs.lemmas.Slice.Eq.{bytes_eq-Decides}
use Rattle.rela_words.specs.Words.{is_plain}

abbrev pub Word : Type 0
Word = List ℕ

-- a plain word, `--`, the option, the option with this text in the same word, the flag, or none of
-- them
pub data Kind : Type 0 where
  plain : Kind
  dashes : Kind
  states : Kind
  given : Word → Kind
  flag : Kind
  bad : Kind

-- what stands behind this text
abbrev pub behind : Word → Word → Option Word
behind [] word = Some word
behind (x ∷ xs) [] = None
behind (x ∷ xs) (y ∷ ys) = if y == x then behind xs ys else None

abbrev pub kind_by : Bool → Bool → Bool → Bool → Option Word → Kind
kind_by true is_dashes is_states is_flag value = plain
kind_by false true is_states is_flag value = dashes
kind_by false false true is_flag value = states
kind_by false false false true value = flag
kind_by false false false false (Some value) = given value
kind_by false false false false None = bad

unfoldable pub kind_of : Word → Kind
kind_of w = kind_by (is_plain w) (bytes_eq w (codes "--")) (bytes_eq w (codes "--states")) (bytes_eq w (codes "--blame")) (behind (codes "--states=") w)

pub record IsBad (w : Word) : Type 0 where
  pub not_plain : is_plain w ≡ false
  pub not_dashes : w ≢ codes "--"
  pub not_states : w ≢ codes "--states"
  pub not_flag : w ≢ codes "--blame"
  pub not_given : (v : Word) → w ≢ codes "--states=" ++ v

abbrev pub Is : Kind → Word → Type 0
Is plain w = is_plain w ≡ true
Is dashes w = w ≡ codes "--"
Is states w = w ≡ codes "--states"
Is (given v) w = w ≡ codes "--states=" ++ v
Is flag w = w ≡ codes "--blame"
Is bad w = IsBad w

behind_is : (p w v : Word) → behind p w ≡ Some v → w ≡ p ++ v
behind_is [] w v e = cc
behind_is (x ∷ xs) [] v e = absurd (cc)
behind_is (x ∷ xs) (y ∷ ys) v e = by (y == x) refl e (λ is. behind_is xs ys v is)
  where
    by : (b : Bool) → y == x ≡ b → (if b then behind xs ys else None) ≡ Some v → (behind xs ys ≡ Some v → ys ≡ xs ++ v) → y ∷ ys ≡ x ∷ (xs ++ v)
    by true same is later =
        let head : y ≡ x = eqb-true y x same in
        let tail : ys ≡ xs ++ v = later is in
        cc
    by false other is later = absurd (cc)

differs : (w text : Word) → bytes_eq w text ≡ false → w ≢ text
differs w text other same = absurd (let both : true ≡ false = sym ((bytes_eq-Decides w text).1 same) ∙ other in cc)

pub kind_is : (w : Word) → Is (kind_of w) w
unfolding kind_of
kind_is w =
    by (is_plain w) (bytes_eq w (codes "--")) (bytes_eq w (codes "--states")) (bytes_eq w (codes "--blame")) (behind (codes "--states=") w) refl refl refl refl refl
  where
    by : (p d s f : Bool) (o : Option Word) → is_plain w ≡ p → bytes_eq w (codes "--") ≡ d → bytes_eq w (codes "--states") ≡ s
        → bytes_eq w (codes "--blame") ≡ f → behind (codes "--states=") w ≡ o → Is (kind_by p d s f o) w
    by true d s f o ep ed es ef eo = ep
    by false true s f o ep ed es ef eo = (bytes_eq-Decides w (codes "--")).0 ed
    by false false true f o ep ed es ef eo = (bytes_eq-Decides w (codes "--states")).0 es
    by false false false true o ep ed es ef eo = (bytes_eq-Decides w (codes "--blame")).0 ef
    by false false false false (Some v) ep ed es ef eo = behind_is (codes "--states=") w v eo
    by false false false false None ep ed es ef eo = record {
      not_plain = ep;
      not_dashes = differs w (codes "--") ed;
      not_states = differs w (codes "--states") es;
      not_flag = differs w (codes "--blame") ef;
      not_given = λ v same. absurd (let none : None ≡ Some v = sym eo ∙ ap (behind (codes "--states=")) same in cc);
    }

pub plain_kind : (w : Word) → is_plain w ≡ true → kind_of w ≡ plain
unfolding kind_of
plain_kind w is = ap (λ b. kind_by b (bytes_eq w (codes "--")) (bytes_eq w (codes "--states")) (bytes_eq w (codes "--blame")) (behind (codes "--states=") w)) is
