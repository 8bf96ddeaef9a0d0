-- Sets of letters that are moved on.
use Rattle.std.proofs.Common.{◌≡◌, ℕ, ◌+◌, ◌-◌, ◌<◌, ◌≤◌, not, Bool, true, false, List, length, sym, ap, ◌∙◌, inl, inr, arith}
use Rattle.std.specs.Prelude.{nat_lt, ◌≢◌}
use Rattle.std.proofs.lemmas.Bool.{cases_Bool, cases_eq, cases_lt, false≢true, and_parts, and_from, le-ltb, lt-ltb}
use Rattle.std.proofs.lemmas.List.{ext_get_or, get_or_past}
use Rattle.std.proofs.lemmas.List.FromFn.{get_or-map-range_with_len, length-map-range_with_len}
use Rattle.rela_labels.specs.Letters.{has}
use Rattle.rela_restriction.specs.Automata.{has_moved, moved}

module _ (size by : ℕ) (set : List Bool) where
  pub moved_length : length (moved size by set) ≡ size
  moved_length = length-map-range_with_len (has_moved by set) 0 size

  pub moved_at : (x : ℕ) → x < size → has (moved size by set) x ≡ has_moved by set x
  moved_at x below = get_or-map-range_with_len (has_moved by set) 0 size x x false below (omega arith)

  pub moved_past : (x : ℕ) → size ≤ x → has (moved size by set) x ≡ false
  moved_past x past = get_or_past (moved size by set) x false (omega (arith, past, moved_length))

  -- a letter of the set has its place in the other one
  pub moved_on : (k : ℕ) → by + k < size → has set k ≡ true → has (moved size by set) (by + k) ≡ true
  moved_on k below among =
      let back : (by + k) - by ≡ k = omega arith in
      moved_at (by + k) below ∙ and_from (not (nat_lt (by + k) by)) (has set ((by + k) - by)) (ap not (le-ltb (by + k) by (omega arith))) (ap (has set) back ∙ among)

  -- and each letter of that has its place in the set
  pub moved_back : (x : ℕ) → has (moved size by set) x ≡ true → (k : ℕ) × (x ≡ by + k) × (has set k ≡ true)
  moved_back x among = elim (cases_lt x size) [
    | inr past ↦ absurd (false≢true (sym (moved_past x past) ∙ among))
    | inl below ↦
        let both = and_parts (not (nat_lt x by)) (has set (x - by)) (sym (moved_at x below) ∙ among) in
        elim (cases_lt x by) [
          | inl before ↦ absurd (false≢true (sym (ap not (lt-ltb x by before)) ∙ both.0))
          | inr from ↦ (x - by, omega (arith, from), both.1)
        ]
  ]

  -- no letter past the end is in the set
  pub within : (k : ℕ) → has set k ≡ true → k < length set
  within k among = elim (cases_lt k (length set)) [
    | inl below ↦ below
    | inr past ↦ absurd (false≢true (sym (get_or_past set k false past) ∙ among))
  ]

  -- letters of the set below n have their places in what was made, and it has no others
  pub record IsMoving (made : List Bool) (n : ℕ) : Type 0 where
    pub sized : length made ≡ size
    pub each : (x : ℕ) → has made x ≡ true → (k : ℕ) × (x ≡ by + k) × (has set k ≡ true)
    pub all : (k : ℕ) → k < n → has set k ≡ true → has made (by + k) ≡ true

  pub moving_none : (made : List Bool) → length made ≡ size → ((k : ℕ) → has made k ≡ false) → IsMoving made 0
  moving_none made sized empty = record {
    sized = sized;
    each = λ x among. absurd (false≢true (sym (empty x) ∙ among));
    all = λ k below among. absurd (omega (arith, below));
  }

  pub moving_more : (made new : List Bool) (n : ℕ) → IsMoving made n → length new ≡ length made → has new (by + n) ≡ true
      → ((k : ℕ) → k ≢ by + n → has new k ≡ has made k) → has set n ≡ true → IsMoving new (n + 1)
  moving_more made new n moving same added others among = record {
    sized = same ∙ moving.sized;
    each = λ x in_new. elim (cases_eq x (by + n)) [
      | inl is ↦ (n, is, among)
      | inr apart ↦ moving.each x (sym (others x apart) ∙ in_new)
    ];
    all = λ k below in_set. elim (cases_eq k n) [
      | inl is ↦ ap (λ j. has new (by + j)) is ∙ added
      | inr apart ↦
          let less : k < n = omega (arith, below, apart) in
          others (by + k) (λ e. omega (arith, less, e)) ∙ moving.all k less in_set
    ];
  }

  pub moving_same : (made : List Bool) (n : ℕ) → IsMoving made n → has set n ≡ false → IsMoving made (n + 1)
  moving_same made n moving lacking = record {
    sized = moving.sized;
    each = moving.each;
    all = λ k below in_set. elim (cases_eq k n) [
      | inl is ↦ absurd (false≢true (sym lacking ∙ ap (has set) (sym is) ∙ in_set))
      | inr apart ↦ moving.all k (omega (arith, below, apart)) in_set
    ];
  }

  pub moving_all : (made : List Bool) (n : ℕ) → length set ≤ n → by + length set ≤ size → IsMoving made n → made ≡ moved size by set
  moving_all made n all room moving = ext_get_or false made (moved size by set) (moving.sized ∙ sym moved_length) (λ i below. at i)
    where
      at : (i : ℕ) → has made i ≡ has (moved size by set) i
      at i = elim (cases_Bool (has (moved size by set) i)) [
        | inl placed ↦
            let back = moved_back i placed in
            ap (has made) back.1 ∙ moving.all back.0 (let less = within back.0 back.2 in omega (arith, less, all)) back.2 ∙ sym placed
        | inr free ↦ elim (cases_Bool (has made i)) [
          | inr lacking ↦ lacking ∙ sym free
          | inl among ↦
              let from = moving.each i among in
              let less = within from.0 from.2 in
              absurd (false≢true (sym free ∙ ap (has (moved size by set)) from.1 ∙ moved_on from.0 (omega (arith, less, room)) from.2))
        ]
      ]
