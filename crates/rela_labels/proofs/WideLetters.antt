-- The letters of sets of any size.
use Rattle.std.proofs.Common.{◌≡◌, ◌≢◌, ℕ, ◌^◌, ◌<◌, ◌≤◌, ◌↔◌, ◌==◌, ◌||◌, Bool, true, false, IsTrue, List, length, Option, None, Some, IfNone, IfSome, inl, inr, arith, refl, sym, ap, subst, ◌∙◌}
use Rattle.std.proofs.lemmas.Bool.{cases_lt, false≢true, eq-eqb, ne_eqb, eqb-true}
use Rattle.std.proofs.lemmas.List.{get_or_past, same_lists}
use Rattle.std.proofs.lemmas.List.FromFn.{length-map-range_with_len, get_or-map-range_with_len}
use Rattle.rela_labels.specs.declared.letters.Letters.{Letters}
use Rattle.rela_labels.specs.declared.letters.Letters.TheVariants.{Few, Wide}
use Rattle.rela_labels.specs.declared.wide_members.Members.{Members}
use Rattle.rela_labels.specs.declared.wide_members.Members.TheVariants.{Nothing, One, Many}
use Rattle.rela_labels.specs.Letters.{has}
use Rattle.rela_labels.specs.WideSets.{has_letter, holds, AreAlike, HaveOneSize, IsHeld, IsSized, letters_in}
use Rattle.rela_labels.specs.Words.{bit_of}
use Rattle.rela_labels.proofs.LettersOfWords.{has_below, IsLeastLetter}

pub held_one : (size letter : ℕ) (members : Members) → IsHeld size members → members ≡ One letter → (letter < size) × (size < 2 ^ 32)
held_one size letter members held is = subst (IsHeld size) is held

-- whether a letter is there, and no other
abbrev IsOnly : Members → ℕ → Bool → Type 0
IsOnly members letter answer = IsTrue answer ↔ ((k : ℕ) → holds members k ≡ (letter == k))

pub only_in_nothing : (members : Members) (letter : ℕ) → members ≡ Nothing → IsOnly members letter false
only_in_nothing members letter is =
    subst (λ m. IsOnly m letter false) (sym is) (λ h. absurd (false≢true h), λ only. only letter ∙ eq-eqb letter letter refl)

pub only_in_one : (members : Members) (one letter : ℕ) → members ≡ One one → IsOnly members letter (one == letter)
only_in_one members one letter is =
    subst (λ m. IsOnly m letter (one == letter)) (sym is)
    (λ h k. ap (λ j. j == k) (eqb-true one letter h), λ only. only letter ∙ eq-eqb letter letter refl)

pub same_words_of : (m n : Members) (a b lent_a lent_b : List ℕ) (same : Bool) → ((k : ℕ) → holds m k ≡ bit_of a k) → ((k : ℕ) → holds n k ≡ bit_of b k)
    → lent_a ≡ a → lent_b ≡ b → IsTrue same ↔ ((k : ℕ) → bit_of lent_a k ≡ bit_of lent_b k)
    → IsTrue same ↔ ((k : ℕ) → holds m k ≡ holds n k)
same_words_of m n a b lent_a lent_b same m_is n_is a_is b_is bits = (
  λ h k. m_is k ∙ ap (λ ws. bit_of ws k) (sym a_is) ∙ bits.0 h k ∙ ap (λ ws. bit_of ws k) b_is ∙ sym (n_is k),
  λ each. bits.1 (λ k. ap (λ ws. bit_of ws k) a_is ∙ sym (m_is k) ∙ each k ∙ n_is k ∙ ap (λ ws. bit_of ws k) (sym b_is)),
)

held_clear : (size : ℕ) (members : Members) → IsHeld size members → (k : ℕ) → size ≤ k → holds members k ≡ false
held_clear size Nothing held k above = refl
held_clear size (One letter) held k above = let below = held.0 in ne_eqb letter k (λ e. omega arith)
held_clear size (Many words) held k above = held.tidy.clear k above

pub held_sizes : (size : ℕ) (m n : Members) → IsHeld size m → IsHeld size n → HaveOneSize m n
held_sizes size Nothing n m_held n_held = tt
held_sizes size (One letter) n m_held n_held = tt
held_sizes size (Many words) Nothing m_held n_held = tt
held_sizes size (Many words) (One letter) m_held n_held = tt
held_sizes size (Many words) (Many others) m_held n_held = m_held.len ∙ sym n_held.len

-- the letters as contracts see them

sized_clear : (size : ℕ) (letters : Letters) → IsSized size letters → (k : ℕ) → size ≤ k → has_letter letters k ≡ false
sized_clear size (Few word) sized k above = sized.clear k above
sized_clear size (Wide members) sized k above = held_clear size members sized.1 k above

pub sized_alike : (size : ℕ) (x y : Letters) → IsSized size x → IsSized size y → AreAlike x y
sized_alike size (Few word) (Few other) x_sized y_sized = tt
sized_alike size (Few word) (Wide others) x_sized y_sized = let fits = x_sized.fits in let above = y_sized.0 in absurd (omega arith)
sized_alike size (Wide members) (Few other) x_sized y_sized = let above = x_sized.0 in let fits = y_sized.fits in absurd (omega arith)
sized_alike size (Wide members) (Wide others) x_sized y_sized = held_sizes size members others x_sized.1 y_sized.1

pub length-letters_in : (size : ℕ) (letters : Letters) → length (letters_in size letters) ≡ size
unfolding letters_in
length-letters_in size letters = length-map-range_with_len (has_letter letters) 0 size

pub has_sized : (size : ℕ) (letters : Letters) → IsSized size letters → (k : ℕ) → has_letter letters k ≡ has (letters_in size letters) k
unfolding letters_in
has_sized size letters sized k =
    elim (cases_lt k size) [
      | inl below ↦ sym (get_or-map-range_with_len (has_letter letters) 0 size k k false below (omega arith))
      | inr above ↦
          sized_clear size letters sized k above
          ∙ sym (get_or_past (letters_in size letters) k false (omega (arith, length-letters_in size letters)))
    ]

pub wide_size : (size : ℕ) (letters : Letters) (x : List Bool) → letters_in size letters ≡ x → size ≡ length x
wide_size size letters x e = sym (length-letters_in size letters) ∙ ap length e

pub has_wide : (size : ℕ) (letters : Letters) (x : List Bool) → IsSized size letters → letters_in size letters ≡ x → (k : ℕ)
    → has_letter letters k ≡ has x k
has_wide size letters x sized e k = has_sized size letters sized k ∙ ap (λ x. has x k) e

-- the letters of a set of the same size are of this size too
pub sized_other : (m n : ℕ) (a b : Letters) (x y : List Bool) → letters_in m a ≡ x → letters_in n b ≡ y → length x ≡ length y → IsSized n b → IsSized m b
sized_other m n a b x y x_is y_is sizes sized =
    let same : n ≡ m = wide_size n b y y_is ∙ sym sizes ∙ sym (wide_size m a x x_is) in
    subst (λ size. IsSized size b) same sized

pub wide_combined : (each : Bool → Bool → Bool) (m n : ℕ) (a b new : Letters) (x y : List Bool) → letters_in m a ≡ x → letters_in n b ≡ y
    → IsSized m a → IsSized n b → IsSized m new → ((k : ℕ) → has_letter new k ≡ each (has_letter a k) (has_letter b k))
    → (k : ℕ) → has (letters_in m new) k ≡ each (has x k) (has y k)
wide_combined each m n a b new x y x_is y_is a_sized b_sized new_sized is k =
    sym (has_sized m new new_sized k) ∙ is k ∙ ap (λ v. each v (has_letter b k)) (has_wide m a x a_sized x_is k)
    ∙ ap (λ v. each (has x k) v) (has_wide n b y b_sized y_is k)

pub wide_least : (size : ℕ) (letters : Letters) (x : List Bool) (least : Option ℕ) → IsSized size letters → letters_in size letters ≡ x
    → IfNone least ((k : ℕ) → has_letter letters k ≡ false) → IfSome least (λ k. has_letter letters k ≡ true)
    → IfSome least (λ k. (j : ℕ) → j < k → has_letter letters j ≡ false) → IsLeastLetter x least
wide_least size letters x None sized e none member least = record {
  none = λ k. sym (has_wide size letters x sized e k) ∙ none k;
  member = tt;
  below = tt;
  others = tt;
}
wide_least size letters x (Some l) sized e none member least = record {
  none = tt;
  member = sym (has_wide size letters x sized e l) ∙ member;
  below = has_below x l (sym (has_wide size letters x sized e l) ∙ member);
  others = λ j below. sym (has_wide size letters x sized e j) ∙ least j below;
}

same_sized : (size : ℕ) (a b : Letters) → ((k : ℕ) → has_letter a k ≡ has_letter b k) → letters_in size a ≡ letters_in size b
unfolding letters_in
same_sized size a b same = same_lists (letters_in size a) (letters_in size b) (length-letters_in size a ∙ sym (length-letters_in size b))
    (λ k d within.
    let below : k < size = omega (arith, length-letters_in size a) in
    get_or-map-range_with_len (has_letter a) 0 size k k d below (omega arith) ∙ same k
    ∙ sym (get_or-map-range_with_len (has_letter b) 0 size k k d below (omega arith)))

pub wide_copy : (size : ℕ) (a b : Letters) (x : List Bool) → letters_in size a ≡ x → ((k : ℕ) → has_letter b k ≡ has_letter a k) → letters_in size b ≡ x
wide_copy size a b x x_is same = same_sized size b a same ∙ x_is

pub wide_same : (m n : ℕ) (a b : Letters) (x y : List Bool) (same : Bool) → letters_in m a ≡ x → letters_in n b ≡ y → IsSized m a → IsSized n b
    → length x ≡ length y → IsTrue same ↔ ((k : ℕ) → has_letter a k ≡ has_letter b k) → IsTrue same ↔ (x ≡ y)
wide_same m n a b x y same x_is y_is a_sized b_sized sizes is =
    let one : m ≡ n = wide_size m a x x_is ∙ sizes ∙ sym (wide_size n b y y_is) in (
      λ h. sym x_is ∙ same_sized m a b (is.0 h) ∙ ap (λ size. letters_in size b) one ∙ y_is,
      λ e. is.1 (λ k. has_wide m a x a_sized x_is k ∙ ap (λ x. has x k) e ∙ sym (has_wide n b y b_sized y_is k)),
    )

-- one letter more
pub wide_added : (size : ℕ) (old new : Letters) (x : List Bool) (letter : ℕ) → letters_in size old ≡ x → IsSized size old → IsSized size new
    → ((k : ℕ) → has_letter new k ≡ (has_letter old k || letter == k)) → (k : ℕ) → has (letters_in size new) k ≡ (has x k || letter == k)
wide_added size old new x letter x_is old_sized new_sized each k =
    sym (has_sized size new new_sized k) ∙ each k ∙ ap (λ v. v || letter == k) (has_wide size old x old_sized x_is k)

pub added_here : (size : ℕ) (old new : Letters) (x : List Bool) (letter : ℕ) → letters_in size old ≡ x → IsSized size old → IsSized size new
    → ((k : ℕ) → has_letter new k ≡ (has_letter old k || letter == k)) → has (letters_in size new) letter ≡ true
added_here size old new x letter x_is old_sized new_sized each =
    wide_added size old new x letter x_is old_sized new_sized each letter
    ∙ ap (λ v. has x letter || v) (eq-eqb letter letter refl) ∙ or_true (has x letter)
  where
    or_true : (b : Bool) → (b || true) ≡ true
    or_true true = refl
    or_true false = refl

pub added_others : (size : ℕ) (old new : Letters) (x : List Bool) (letter : ℕ) → letters_in size old ≡ x → IsSized size old → IsSized size new
    → ((k : ℕ) → has_letter new k ≡ (has_letter old k || letter == k)) → (k : ℕ) → k ≢ letter → has (letters_in size new) k ≡ has x k
added_others size old new x letter x_is old_sized new_sized each k apart =
    wide_added size old new x letter x_is old_sized new_sized each k
    ∙ ap (λ v. has x k || v) (ne_eqb letter k (λ e. apart (sym e))) ∙ or_false (has x k)
  where
    or_false : (b : Bool) → (b || false) ≡ b
    or_false true = refl
    or_false false = refl

-- no letter
pub wide_empty : (size : ℕ) (letters : Letters) (x : List Bool) (empty : Bool) → IsSized size letters → letters_in size letters ≡ x
    → IsTrue empty ↔ ((k : ℕ) → has_letter letters k ≡ false) → IsTrue empty ↔ ((k : ℕ) → has x k ≡ false)
wide_empty size letters x empty sized e is = (
  λ h k. sym (has_wide size letters x sized e k) ∙ is.0 h k,
  λ none. is.1 (λ k. has_wide size letters x sized e k ∙ none k),
)
