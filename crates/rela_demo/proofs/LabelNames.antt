-- The names of the labels: each is one that a location may have, and no two are the same.
use Rattle.std.proofs.Common.{◌≡◌, refl, ℕ, zero, suc, ◌+◌, ◌*◌, ◌/◌, ◌%◌, ◌<◌, ◌≤◌, Bool, true, false, List, ◌∷◌, ◌++◌, le-leb, arith}
use Rattle.std.specs.List.{All}
use Rattle.std.specs.Str.{bytes_eq}
use Rattle.std.specs.Cmp.Lexicographic.{bytes_decides}
use Rattle.std.proofs.lemmas.List.Elements.{All-nil, All-cons}
use Rattle.rela_names.specs.Name.{is_name, is_name_byte, is_reserved}
use Rattle.rela_demo.specs.Names.{Label, label_a, label_b, device_name, interface_name, labels_from, three_digits}

-- ---- names

pub digit_named : (x : ℕ) → 48 ≤ x → x ≤ 57 → is_name_byte x ≡ true
digit_named x from to = rw (le-leb 48 x from, le-leb x 57 to) refl

last_named : (x : ℕ) → is_name_byte (48 + x % 10) ≡ true
last_named x = digit_named (48 + x % 10) (omega arith) (omega arith)

pub record IsLabel (label : Label) : Type 0 where
  pub device : is_name (device_name label) ≡ true
  pub device_free : is_reserved (device_name label) ≡ false
  pub interface : is_name (interface_name label) ≡ true
  pub interface_free : is_reserved (interface_name label) ≡ false

a_label : (i : ℕ) → IsLabel (label_a i)
a_label i = record {
  device = rw (last_named (i / 100), last_named (i / 10), last_named i) refl;
  device_free = refl;
  interface = rw (last_named (i / 100), last_named (i / 10), last_named i) refl;
  interface_free = refl;
}

b_label : (i : ℕ) → IsLabel (label_b i)
b_label i = record {
  device = rw (last_named (i / 100), last_named (i / 10), last_named i) refl;
  device_free = refl;
  interface = rw (last_named (i / 100), last_named (i / 10), last_named i) refl;
  interface_free = refl;
}

-- ---- what holds of all

pub labels_all : (P : Label → Type 0) (first count : ℕ) → ((i : ℕ) → first ≤ i → i < first + count → P (label_a i) × P (label_b i)) → All P (labels_from first count)
labels_all P first zero h = All-nil P
labels_all P first (suc count) h =
    let here : P (label_a first) × P (label_b first) = h first (omega arith) (omega arith) in
    All-cons P (label_a first) (label_b first ∷ labels_from (first + 1) count) here.0 (All-cons P (label_b first) (labels_from (first + 1) count) here.1 (labels_all P (first + 1) count (λ i from to. h i (omega (arith, from)) (omega (arith, to)))))

pub are_labels : (first count : ℕ) → All IsLabel (labels_from first count)
are_labels first count = labels_all IsLabel first count (λ i from to. (a_label i, b_label i))

pub first_label : IsLabel (label_a 1)
first_label = a_label 1

pub last_label : (n : ℕ) → IsLabel (label_b n)
last_label n = b_label n

-- ---- different names

three_same : (x y z x' y' z' : ℕ) (s s' : List ℕ) → x ∷ y ∷ z ∷ s ≡ x' ∷ y' ∷ z' ∷ s' → (x ≡ x') × (y ≡ y') × (z ≡ z')
three_same x y z x' y' z' s s' e = (cc, cc, cc)

digits_number : (i : ℕ) → i < 1000 → i ≡ i / 100 % 10 * 100 + i / 10 % 10 * 10 + i % 10
digits_number i lt = omega (arith, lt)

digits_same : (i j : ℕ) (s : List ℕ) → i < 1000 → j < 1000 → three_digits i ++ s ≡ three_digits j ++ s → i ≡ j
digits_same i j s lt_i lt_j e =
    let same = three_same (48 + i / 100 % 10) (48 + i / 10 % 10) (48 + i % 10) (48 + j / 100 % 10) (48 + j / 10 % 10) (48 + j % 10) s s e in
    omega (arith, digits_number i lt_i, digits_number j lt_j, same.0, same.1, same.2)

tail_same : (x y : ℕ) (s t : List ℕ) → x ∷ s ≡ y ∷ t → s ≡ t
tail_same x y s t e = cc

bytes_apart : (b : Bool) (s t : List ℕ) → bytes_eq s t ≡ b → (s ≡ t → ⊥) → b ≡ false
bytes_apart true s t is apart = absurd (apart ((bytes_decides s t).0 is))
bytes_apart false s t is apart = refl

-- names of different numbers, whatever their letters
pub names_apart : (l m i j : ℕ) (s : List ℕ) → i < j → j < 1000 → bytes_eq (l ∷ (three_digits j ++ s)) (m ∷ (three_digits i ++ s)) ≡ false
names_apart l m i j s lt few =
    bytes_apart (bytes_eq (l ∷ (three_digits j ++ s)) (m ∷ (three_digits i ++ s))) (l ∷ (three_digits j ++ s)) (m ∷ (three_digits i ++ s)) refl
    (λ e. omega (arith, lt, digits_same j i s few (omega (arith, lt, few)) (tail_same l m (three_digits j ++ s) (three_digits i ++ s) e)))

pub name_itself : (s : List ℕ) → bytes_eq s s ≡ true
name_itself s = (bytes_decides s s).1 refl
