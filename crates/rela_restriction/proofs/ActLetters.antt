-- The letters that sets of them have, and no others.
use Rattle.std.proofs.Common.{◌≡◌, ℕ, ◌+◌, ◌-◌, ◌<◌, ◌≤◌, Bool, true, false, List, [], ◌∷◌, ◌++◌, length, get_or, take, inl, inr, sym, ap, ◌∙◌, subst, arith}
use Rattle.std.specs.Prelude.{◌≢◌}
use Rattle.std.specs.List.{Contains}
use Rattle.std.proofs.lemmas.Bool.{cases_eq, false≢true}
use Rattle.std.proofs.lemmas.List.{take_more}
use Rattle.std.proofs.lemmas.List.Elements.{Contains-append_left, Contains-push, Contains-push_cases}
use Rattle.rela_labels.specs.Letters.{has}
use Rattle.rela_restriction.specs.Acts.{IsActOn}

-- ---- letters in a row

pub none_between : (from to : ℕ) (set : List Bool) → ((k : ℕ) → has set k ≡ false) → (k : ℕ) → has set k ≡ true → (from ≤ k) × (k < to)
none_between from to set empty k among = absurd (false≢true (sym (empty k) ∙ among))

pub one_between : (from to n : ℕ) (old new : List Bool) → from ≤ n → n < to → ((k : ℕ) → has old k ≡ true → (from ≤ k) × (k < to))
    → ((k : ℕ) → k ≢ n → has new k ≡ has old k) → (k : ℕ) → has new k ≡ true → (from ≤ k) × (k < to)
one_between from to n old new above below before others k among = elim (cases_eq k n) [
  | inl same ↦ (omega (arith, same, above), omega (arith, same, below))
  | inr apart ↦ before k (sym (others k apart) ∙ among)
]

pub each_between : (from n : ℕ) (old new : List Bool) → ((k : ℕ) → from ≤ k → k < n → has old k ≡ true) → has new n ≡ true
    → ((k : ℕ) → k ≢ n → has new k ≡ has old k) → (k : ℕ) → from ≤ k → k < n + 1 → has new k ≡ true
each_between from n old new before added others k above below = elim (cases_eq k n) [
  | inl same ↦ subst (λ j. has new j ≡ true) (sym same) added
  | inr apart ↦ others k apart ∙ before k above (omega (arith, apart, below))
]

-- ---- letters of acts

-- a letter is still there where one was put in
pub still : (n : ℕ) (old new : List Bool) → has new n ≡ true → ((k : ℕ) → k ≢ n → has new k ≡ has old k) → (k : ℕ) → has old k ≡ true → has new k ≡ true
still n old new added others k among = elim (cases_eq k n) [
  | inl same ↦ subst (λ j. has new j ≡ true) (sym same) added
  | inr apart ↦ others k apart ∙ among
]

-- those of the inputs, and of one more
pub input_more : (f : ℕ → ℕ) (inputs : List ℕ) (i k : ℕ) (old new : List Bool) → i < length inputs → get_or inputs i 0 ≡ k
    → ((x : ℕ) → Contains (take i inputs) x → has old (f x) ≡ true) → ((x : ℕ) → has old x ≡ true → has new x ≡ true) → has new (f k) ≡ true
    → (x : ℕ) → Contains (take (i + 1) inputs) x → has new (f x) ≡ true
input_more f inputs i k old new inside at before kept added x among =
    elim (Contains-push_cases (take i inputs) k x (subst (λ l. Contains l x) (take_more inputs i 0 inside ∙ ap (λ y. take i inputs ++ y ∷ []) at) among)) [
      | inl earlier ↦ kept (f x) (before x earlier)
      | inr same ↦ subst (λ j. has new (f j) ≡ true) same added
    ]

-- those that write alone
pub writing_alone : (n : ℕ) (inputs : List ℕ) (x : ℕ) → (n ≤ x) × (x < n + n) → IsActOn n inputs x
writing_alone n inputs x (from, below) = inl (x - n, omega (arith, from, below), omega (arith, from))

wider : (n : ℕ) (inputs : List ℕ) (k x : ℕ) → IsActOn n inputs x → IsActOn n (inputs ++ k ∷ []) x
wider n inputs k x (inl writes) = inl writes
wider n inputs k x (inr (j, among, is)) = inr (j, Contains-append_left inputs (k ∷ []) j among, is)

-- and those that read one input more
pub act_more : (n : ℕ) (inputs : List ℕ) (i k : ℕ) (old mid new : List Bool) → i < length inputs → get_or inputs i 0 ≡ k
    → ((x : ℕ) → has old x ≡ true → IsActOn n (take i inputs) x) → ((x : ℕ) → x ≢ k → has mid x ≡ has old x)
    → ((x : ℕ) → x ≢ n + (n + k) → has new x ≡ has mid x) → (x : ℕ) → has new x ≡ true → IsActOn n (take (i + 1) inputs) x
act_more n inputs i k old mid new inside at before first second x among =
    let one_more = take_more inputs i 0 inside ∙ ap (λ y. take i inputs ++ y ∷ []) at in
    subst (λ (l : List ℕ). IsActOn n l x) (sym one_more) (elim (cases_eq x (n + (n + k))) [
      | inl kept ↦ inr (k, Contains-push (take i inputs) k, inr kept)
      | inr other ↦ elim (cases_eq x k) [
        | inl read ↦ inr (k, Contains-push (take i inputs) k, inl read)
        | inr apart ↦ wider n (take i inputs) k x (before x (sym (first x apart) ∙ (sym (second x other) ∙ among)))
      ]
    ])
