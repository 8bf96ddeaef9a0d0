-- The letters of tidy words are their bits.
use Rattle.std.proofs.Common.{◌≡◌, ◌≢◌, ℕ, ◌+◌, ◌*◌, ◌/◌, ◌^◌, ◌<◌, ◌≤◌, ◌↔◌, Bool, true, false, not, IsTrue, List, length, replicate, Option, None, Some, IfNone, IfSome, is_some, inl, inr, arith, sym, ap, subst, ◌∙◌, Vec}
use Rattle.std.proofs.lemmas.Bool.{cases_lt, false≢true, not-false, not-true}
use Rattle.std.proofs.lemmas.List.{get_or_past, get_or-replicate, length-replicate, same_lists, with_items_is}
use Rattle.std.proofs.lemmas.List.FromFn.{length-map-range_with_len, get_or-map-range_with_len}
use Rattle.std.specs.Vec.{with_items}
use Rattle.rela_labels.specs.Letters.{has}
use Rattle.rela_labels.specs.Words.{bit_of, letters_of, IsTidy, IsWide, IsNarrow}
use Rattle.rela_labels.proofs.WordBits.{no_word, past_words}

pub length-letters_of : (size : ℕ) (words : List ℕ) → length (letters_of size words) ≡ size
unfolding letters_of
length-letters_of size words = length-map-range_with_len (bit_of words) 0 size

has_letter : (size : ℕ) (words : List ℕ) → IsTidy size words → (k : ℕ) → bit_of words k ≡ has (letters_of size words) k
unfolding letters_of
has_letter size words tidy k =
    elim (cases_lt k size) [
      | inl below ↦ sym (get_or-map-range_with_len (bit_of words) 0 size k k false below (omega arith))
      | inr above ↦
          tidy.clear k above ∙ sym (get_or_past (letters_of size words) k false (omega (arith, length-letters_of size words)))
    ]

-- The words of a set x of letters, as a call sees them.
pub record IsWords (size : ℕ) (words : List ℕ) (x : List Bool) : Type 0 where
  pub letters : letters_of size words ≡ x
  pub tidy : IsTidy size words

pub size_of : (size : ℕ) (words : List ℕ) (x : List Bool) → letters_of size words ≡ x → size ≡ length x
size_of size words x e = sym (length-letters_of size words) ∙ ap length e

pub has_from : (size : ℕ) (words : List ℕ) (x : List Bool) → IsWords size words x → (k : ℕ) → bit_of words k ≡ has x k
has_from size words x is k = has_letter size words is.tidy k ∙ ap (λ letters. has letters k) is.letters

pub has_below : (x : List Bool) (k : ℕ) → has x k ≡ true → k < length x
has_below x k h =
    elim (cases_lt k (length x)) [
      | inl below ↦ below
      | inr above ↦ absurd (false≢true (sym (get_or_past x k false above) ∙ h))
    ]

-- words with the bits of two sets put together
pub record IsCombined (each : Bool → Bool → Bool) (size : ℕ) (words : List ℕ) (x y : List Bool) : Type 0 where
  pub tidy : IsTidy size words
  pub size_is : length (letters_of size words) ≡ length x
  pub each_letter : (k : ℕ) → has (letters_of size words) k ≡ each (has x k) (has y k)

pub combined : (each : Bool → Bool → Bool) → each false false ≡ false → (m n : ℕ) (a b words : List ℕ) (x y : List Bool)
    → IsWords m a x → IsWords n b y → length x ≡ length y → length words ≡ length a
    → ((k : ℕ) → bit_of words k ≡ each (bit_of a k) (bit_of b k)) → IsCombined each m words x y
combined each none m n a b words x y a_is b_is sizes len bits =
    let m_is : m ≡ length x = size_of m a x a_is.letters in
    let n_is : n ≡ length y = size_of n b y b_is.letters in
    let tidy : IsTidy m words = record {
      clear = λ k above. bits k ∙ ap (λ v. each v (bit_of b k)) (a_is.tidy.clear k above)
          ∙ ap (λ v. each false v) (b_is.tidy.clear k (omega arith)) ∙ none;
      enough = let enough = a_is.tidy.enough in omega arith;
    } in
    record {
      tidy = tidy;
      size_is = length-letters_of m words ∙ m_is;
      each_letter = λ k. sym (has_letter m words tidy k) ∙ bits k
          ∙ ap (λ v. each v (bit_of b k)) (has_from m a x a_is k) ∙ ap (λ v. each (has x k) v) (has_from n b y b_is k);
    }

-- the same for sets of w words
pub record IsNarrowCombined (w : ℕ) (each : Bool → Bool → Bool) (size : ℕ) (words : List ℕ) (x y : List Bool) : Type 0 where
  pub combined : IsCombined each size words x y
  pub narrow : IsNarrow w size words

pub narrow_combined : (w : ℕ) (each : Bool → Bool → Bool) → each false false ≡ false → (m n : ℕ) (a b words : List ℕ) (x y : List Bool)
    → letters_of m a ≡ x → letters_of n b ≡ y → IsNarrow w m a → IsNarrow w n b → length x ≡ length y → length words ≡ length a
    → ((k : ℕ) → bit_of words k ≡ each (bit_of a k) (bit_of b k)) → IsNarrowCombined w each m words x y
narrow_combined w each none m n a b words x y x_is y_is a_narrow b_narrow sizes len bits =
    let all =
    combined each none m n a b words x y (record { letters = x_is; tidy = a_narrow.tidy }) (record { letters = y_is; tidy = b_narrow.tidy })
    sizes len bits
    in
    record { combined = all; narrow = record { tidy = all.tidy; few = a_narrow.few; len = len ∙ a_narrow.len } }

-- the same where the words were written into a vector
pub record IsWideCombined (each : Bool → Bool → Bool) (size : ℕ) (words : List ℕ) (x y : List Bool) : Type 0 where
  pub combined : IsCombined each size words x y
  pub wide : IsWide size words

pub wide_combined : {Z : Type 0} → (each : Bool → Bool → Bool) → each false false ≡ false → (m n : ℕ) (set : Vec ℕ Z) (other a b words : List ℕ)
    (x y : List Bool) → letters_of m set.items ≡ x → letters_of n other ≡ y → IsWide m set.items → IsWide n other → length x ≡ length y
    → a ≡ set.items → b ≡ other → length words ≡ length a → length a ≡ set.len
    → ((k : ℕ) → bit_of words k ≡ each (bit_of a k) (bit_of b k)) → IsWideCombined each m (with_items set words).items x y
wide_combined each none m n set other a b words x y x_is y_is set_wide other_wide sizes a_is b_is len cap bits =
    let set_is : IsWords m a x = record { letters = ap (letters_of m) a_is ∙ x_is; tidy = subst (IsTidy m) (sym a_is) set_wide.tidy } in
    let other_is : IsWords n b y = record { letters = ap (letters_of n) b_is ∙ y_is; tidy = subst (IsTidy n) (sym b_is) other_wide.tidy } in
    let all = combined each none m n a b words x y set_is other_is sizes len bits in
    subst (λ ws. IsWideCombined each m ws x y) (sym (with_items_is set words (len ∙ cap)))
    (record { combined = all; wide = record { tidy = all.tidy; len = len ∙ ap length a_is ∙ set_wide.len; fits = set_wide.fits } })

-- words of two sets of one size are as many
pub wide_lengths : (m n : ℕ) (a b : List ℕ) (x y : List Bool) → letters_of m a ≡ x → letters_of n b ≡ y → IsWide m a → IsWide n b
    → length x ≡ length y → length a ≡ length b
wide_lengths m n a b x y x_is y_is a_wide b_wide sizes =
    let m_is : m ≡ length x = size_of m a x x_is in
    let n_is : n ≡ length y = size_of n b y y_is in
    let same : m ≡ n = m_is ∙ sizes ∙ sym n_is in
    a_wide.len ∙ ap (λ size. (size + 63) / 64) same ∙ sym b_wide.len

-- what a search for the least 1 tells
pub record IsLeastLetter (x : List Bool) (least : Option ℕ) : Type 0 where
  pub none : IfNone least ((k : ℕ) → has x k ≡ false)
  pub member : IfSome least (λ k. has x k ≡ true)
  pub below : IfSome least (λ k. k < length x)
  pub others : IfSome least (λ k. (j : ℕ) → j < k → has x j ≡ false)

pub least_letter : (size : ℕ) (words : List ℕ) (x : List Bool) → IsWords size words x → (least : Option ℕ)
    → IfNone least ((k : ℕ) → bit_of words k ≡ false) → IfSome least (λ k. bit_of words k ≡ true)
    → IfSome least (λ k. (j : ℕ) → j < k → bit_of words j ≡ false) → IsLeastLetter x least
least_letter size words x is None none member least = record {
  none = λ k. sym (has_from size words x is k) ∙ none k;
  member = tt;
  below = tt;
  others = tt;
}
least_letter size words x is (Some l) none member least = record {
  none = tt;
  member = sym (has_from size words x is l) ∙ member;
  below = has_below x l (sym (has_from size words x is l) ∙ member);
  others = λ j below. sym (has_from size words x is j) ∙ least j below;
}

pub empty_when_none : (x : List Bool) (least : Option ℕ) (none : Bool) → is_some least ≡ not none → IsLeastLetter x least
    → IsTrue none ↔ ((k : ℕ) → has x k ≡ false)
empty_when_none x None none e is = (λ _. is.none, λ _. not-false none (sym e))
empty_when_none x (Some l) none e is =
    (λ h. absurd (false≢true (sym (not-true none (sym e)) ∙ h)), λ no_letter. absurd (false≢true (sym (no_letter l) ∙ is.member)))

same_letters : (size : ℕ) (a b : List ℕ) → ((k : ℕ) → bit_of a k ≡ bit_of b k) → letters_of size a ≡ letters_of size b
unfolding letters_of
same_letters size a b same = same_lists (letters_of size a) (letters_of size b) (length-letters_of size a ∙ sym (length-letters_of size b))
    (λ k d within.
    let below : k < size = omega (arith, length-letters_of size a) in
    get_or-map-range_with_len (bit_of a) 0 size k k d below (omega arith) ∙ same k
    ∙ sym (get_or-map-range_with_len (bit_of b) 0 size k k d below (omega arith)))

-- two sets of one size with the same bits
pub same_sets : (m n : ℕ) (a b : List ℕ) (x y : List Bool) → IsWords m a x → IsWords n b y → length x ≡ length y → (same : Bool)
    → IsTrue same ↔ ((k : ℕ) → bit_of a k ≡ bit_of b k) → IsTrue same ↔ (x ≡ y)
same_sets m n a b x y a_is b_is sizes same bits =
    let one : m ≡ n = size_of m a x a_is.letters ∙ sizes ∙ sym (size_of n b y b_is.letters) in (
      λ h. sym a_is.letters ∙ same_letters m a b (bits.0 h) ∙ ap (λ size. letters_of size b) one ∙ b_is.letters,
      λ e. bits.1 (λ k. has_from m a x a_is k ∙ ap (λ letters. has letters k) e ∙ sym (has_from n b y b_is k)),
    )

-- no letter
pub no_bits : (n : ℕ) (k : ℕ) → bit_of (replicate n 0) k ≡ false
no_bits n k =
    elim (cases_lt (k / 64) n) [
      | inl below ↦ no_word (replicate n 0) k (get_or-replicate n (k / 64) 0 0 below)
      | inr above ↦ past_words (replicate n 0) k (omega (arith, length-replicate {A = ℕ} n 0))
    ]

pub zeros_tidy : (size n : ℕ) → size ≤ 64 * n → IsTidy size (replicate n 0)
zeros_tidy size n enough = record { clear = λ k _. no_bits n k; enough = omega (arith, length-replicate {A = ℕ} n 0) }

pub zeros_wide : (size : ℕ) → size < 2 ^ 32 → IsWide size (replicate ((size + 63) / 64) 0)
zeros_wide size fits = record { tidy = zeros_tidy size ((size + 63) / 64) (omega arith); len = length-replicate ((size + 63) / 64) 0; fits = fits }

pub zeros_none : (size n : ℕ) → size ≤ 64 * n → (k : ℕ) → has (letters_of size (replicate n 0)) k ≡ false
zeros_none size n enough k = sym (has_letter size (replicate n 0) (zeros_tidy size n enough) k) ∙ no_bits n k

-- one letter more
pub record IsAdded (size : ℕ) (words : List ℕ) (x : List Bool) (letter : ℕ) : Type 0 where
  pub tidy : IsTidy size words
  pub size_is : length (letters_of size words) ≡ length x
  pub added : has (letters_of size words) letter ≡ true
  pub others : (k : ℕ) → k ≢ letter → has (letters_of size words) k ≡ has x k

pub with_letter : (size : ℕ) (a words : List ℕ) (x : List Bool) (letter : ℕ) → IsWords size a x → letter < length x → length words ≡ length a
    → bit_of words letter ≡ true → ((k : ℕ) → k ≢ letter → bit_of words k ≡ bit_of a k) → IsAdded size words x letter
with_letter size a words x letter is below len added others =
    let size_is : size ≡ length x = size_of size a x is.letters in
    let tidy : IsTidy size words = record {
      clear = λ k above. let apart : k ≢ letter = omega arith in others k apart ∙ is.tidy.clear k above;
      enough = let enough = is.tidy.enough in omega arith;
    } in
    record {
      tidy = tidy;
      size_is = length-letters_of size words ∙ size_is;
      added = sym (has_letter size words tidy letter) ∙ added;
      others = λ k apart. sym (has_letter size words tidy k) ∙ others k apart ∙ has_from size a x is k;
    }

pub record IsWideAdded (size : ℕ) (words : List ℕ) (x : List Bool) (letter : ℕ) : Type 0 where
  pub added : IsAdded size words x letter
  pub wide : IsWide size words

pub wide_with_letter : {Z : Type 0} → (size : ℕ) (set : Vec ℕ Z) (a words : List ℕ) (x : List Bool) (letter : ℕ)
    → letters_of size set.items ≡ x → IsWide size set.items → letter < length x → a ≡ set.items → length words ≡ length a → length a ≡ set.len
    → bit_of words letter ≡ true → ((k : ℕ) → k ≢ letter → bit_of words k ≡ bit_of a k) → IsWideAdded size (with_items set words).items x letter
wide_with_letter size set a words x letter x_is set_wide below a_is len cap added others =
    let is : IsWords size a x = record { letters = ap (letters_of size) a_is ∙ x_is; tidy = subst (IsTidy size) (sym a_is) set_wide.tidy } in
    let all = with_letter size a words x letter is below len added others in
    subst (λ ws. IsWideAdded size ws x letter) (sym (with_items_is set words (len ∙ cap)))
    (record { added = all; wide = record { tidy = all.tidy; len = len ∙ ap length a_is ∙ set_wide.len; fits = set_wide.fits } })

-- words that a call lends are those of the set
pub lent_words : (size : ℕ) (words lent : List ℕ) (x : List Bool) → letters_of size words ≡ x → IsTidy size words → lent ≡ words → IsWords size lent x
lent_words size words lent x x_is tidy e = record { letters = ap (letters_of size) e ∙ x_is; tidy = subst (IsTidy size) (sym e) tidy }

pub letter_within : (size : ℕ) (words lent : List ℕ) (x : List Bool) (letter : ℕ) → letters_of size words ≡ x → IsTidy size words → lent ≡ words
    → letter < length x → letter < 64 * length lent
letter_within size words lent x letter x_is tidy e below =
    let size_is : size ≡ length x = size_of size words x x_is in
    let len : length lent ≡ length words = ap length e in
    let enough = tidy.enough in
    omega arith

pub record IsNarrowAdded (w size : ℕ) (words : List ℕ) (x : List Bool) (letter : ℕ) : Type 0 where
  pub added : IsAdded size words x letter
  pub narrow : IsNarrow w size words

pub narrow_with_letter : (w size : ℕ) (a words : List ℕ) (x : List Bool) (letter : ℕ)
    → letters_of size a ≡ x → IsNarrow w size a → letter < length x → length words ≡ length a
    → bit_of words letter ≡ true → ((k : ℕ) → k ≢ letter → bit_of words k ≡ bit_of a k) → IsNarrowAdded w size words x letter
narrow_with_letter w size a words x letter x_is a_narrow below len added others =
    let all = with_letter size a words x letter (record { letters = x_is; tidy = a_narrow.tidy }) below len added others in
    record { added = all; narrow = record { tidy = all.tidy; few = a_narrow.few; len = len ∙ a_narrow.len } }

pub zeros_narrow : (w size : ℕ) → w ≤ 64 → size ≤ 64 * w → IsNarrow w size (replicate w 0)
zeros_narrow w size few enough = record { tidy = zeros_tidy size w enough; few = few; len = length-replicate w 0 }

-- the size of a set of w words fits them
pub narrow_fits : (w size : ℕ) (words : List ℕ) (x : List Bool) → letters_of size words ≡ x → IsNarrow w size words → (w ≤ 64) × (length x ≤ 64 * w)
narrow_fits w size words x x_is narrow =
    let size_is : size ≡ length x = size_of size words x x_is in
    let len = narrow.len in
    let enough = narrow.tidy.enough in
    (narrow.few, omega arith)
