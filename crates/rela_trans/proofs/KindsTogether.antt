-- What two kinds of moves do together, the second reading what the first writes.
use Rattle.std.proofs.Common.{◌≡◌, ℕ, ◌&&◌, Bool, true, false, if◌then◌else◌, List, [], ◌∷◌, length, get_or, Option, None, Some, refl, sym, ap, ◌∙◌, subst, arith}
use Rattle.std.specs.List.{list_any}
use Rattle.std.specs.Option.{option_map}
use Rattle.std.proofs.lemmas.List.FromFn.{length-map-range_with_len}
use Rattle.std.proofs.lemmas.Option.{same_Some, none-some}
use Rattle.rela_labels.specs.Letters.{has}
use Rattle.rela_nfa.specs.Meeting.{common}
use Rattle.rela_trans.specs.Composition.{Covers, unless_empty, first_alone, second_alone, both_by_letter}
use Rattle.rela_trans.specs.Machine.{Kind, IsSized}
use Rattle.rela_trans.specs.Runs.{IsSymbolOf, Does}
use Rattle.rela_trans.specs.declared.moves.MoveKind.TheVariants.{Silent, In, Out, Same}
use Rattle.rela_trans.proofs.SharedLetters.{has_below, common_both, both_common, some_letter, any_letter}

-- ---- a set, unless it is empty

unless_some : (f : List Bool → Kind) (b : Bool) (set : List Bool) (kind : Kind) → option_map f (if b then Some set else None) ≡ Some kind → (b ≡ true) × (f set ≡ kind)
unless_some f true set kind e = (refl, same_Some (f set) kind e)
unless_some f false set kind e = absurd (none-some kind e)

some_unless : (f : List Bool → Kind) (set : List Bool) (k : ℕ) → has set k ≡ true → option_map f (unless_empty set) ≡ Some (f set)
some_unless f set k among =
    let some : Option (List Bool) = Some set in
    ap (λ b. option_map f (if b then some else None)) (any_letter set k among)

-- ---- words of one symbol

no_symbol : (s : ℕ) → [] ≡ s ∷ [] → ⊥
no_symbol s e = absurd (omega (arith, ap length e))

one_symbol : (read : ℕ → ℕ) (set : List Bool) (s : ℕ) → IsSymbolOf read set (s ∷ []) → has set (read s) ≡ true
one_symbol read set s (t, among, e) = subst (λ n. has set (read n) ≡ true) (sym (ap (λ l. get_or l 0 0) e)) among

no_symbol_of : (read : ℕ → ℕ) (set : List Bool) → IsSymbolOf read set [] → ⊥
no_symbol_of read set (s, among, e) = no_symbol s e

-- ---- what is made does what the two do

module _ (read : ℕ → ℕ) (input output : List ℕ) where
  pub first_does : (kind made : Kind) → first_alone kind ≡ Some made → Does read made input output → Does read kind input [] × (output ≡ [])
  first_does Silent made e does =
      let same : Does read Silent input output = subst (λ k. Does read k input output) (sym (same_Some Silent made e)) does in
      ((same.0, refl), same.1)
  first_does (In set) made e does =
      let same : Does read (In set) input output = subst (λ k. Does read k input output) (sym (unless_some In (list_any (λ b. b) set) set made e).1) does in
      ((same.0, refl), same.1)
  first_does (Out set) made e does = absurd (none-some made e)
  first_does (Same set) made e does = absurd (none-some made e)

  pub second_does : (kind made : Kind) → second_alone kind ≡ Some made → Does read made input output → Does read kind [] output × (input ≡ [])
  second_does Silent made e does =
      let same : Does read Silent input output = subst (λ k. Does read k input output) (sym (same_Some Silent made e)) does in
      ((refl, same.1), same.0)
  second_does (In set) made e does = absurd (none-some made e)
  second_does (Out set) made e does =
      let same : Does read (Out set) input output = subst (λ k. Does read k input output) (sym (unless_some Out (list_any (λ b. b) set) set made e).1) does in
      ((refl, same.1), same.0)
  second_does (Same set) made e does = absurd (none-some made e)

  module _ (letters : ℕ) (covers : Covers read letters) where
    -- a symbol whose letter is common to both sets
    shared : (s t : List Bool) → length s ≡ letters → list_any (λ b. b) (common s t) ≡ true → (c : ℕ) × (has s (read c) ≡ true) × (has t (read c) ≡ true)
    shared s t size any =
        let some = some_letter (common s t) any in
        let parts = common_both s t some.0 some.1 in
        let symbol = covers some.0 (omega (arith, has_below s some.0 parts.0, size)) in
        (symbol.0, subst (λ k. has s k ≡ true) (sym symbol.1) parts.0, subst (λ k. has t k ≡ true) (sym symbol.1) parts.1)

    pub both_does : (first second made : Kind) → IsSized letters first → both_by_letter first second ≡ Some made → Does read made input output
        → (c : ℕ) × Does read first input (c ∷ []) × Does read second (c ∷ []) output
    both_does Silent second made size e does = absurd (none-some made e)
    both_does (In s) second made size e does = absurd (none-some made e)
    both_does (Out s) Silent made size e does = absurd (none-some made e)
    both_does (Out s) (In t) made size e does =
        let some = unless_some (λ _. Silent) (list_any (λ b. b) (common s t)) (common s t) made e in
        let same : Does read Silent input output = subst (λ k. Does read k input output) (sym some.1) does in
        let c = shared s t size some.0 in
        (c.0, (same.0, (c.0, c.1, refl)), ((c.0, c.2, refl), same.1))
    both_does (Out s) (Out t) made size e does = absurd (none-some made e)
    both_does (Out s) (Same t) made size e does =
        let some = unless_some Out (list_any (λ b. b) (common s t)) (common s t) made e in
        let same : Does read (Out (common s t)) input output = subst (λ k. Does read k input output) (sym some.1) does in
        let c : ℕ = same.1.0 in
        let parts = common_both s t (read c) same.1.1 in
        (c, (same.0, (c, parts.0, refl)), ((c, parts.1, refl), same.1.2))
    both_does (Same s) Silent made size e does = absurd (none-some made e)
    both_does (Same s) (In t) made size e does =
        let some = unless_some In (list_any (λ b. b) (common s t)) (common s t) made e in
        let same : Does read (In (common s t)) input output = subst (λ k. Does read k input output) (sym some.1) does in
        let c : ℕ = same.0.0 in
        let parts = common_both s t (read c) same.0.1 in
        (c, ((c, parts.0, same.0.2), sym same.0.2), ((c, parts.1, refl), same.1))
    both_does (Same s) (Out t) made size e does = absurd (none-some made e)
    both_does (Same s) (Same t) made size e does =
        let some = unless_some Same (list_any (λ b. b) (common s t)) (common s t) made e in
        let same : Does read (Same (common s t)) input output = subst (λ k. Does read k input output) (sym some.1) does in
        let c : ℕ = same.0.0 in
        let parts = common_both s t (read c) same.0.1 in
        (c, ((c, parts.0, same.0.2), sym same.0.2), ((c, parts.1, refl), same.1 ∙ same.0.2))

  -- ---- and what the two do is made

  pub first_made : (kind : Kind) → Does read kind input [] → (made : Kind) × (first_alone kind ≡ Some made) × Does read made input []
  first_made Silent does = (Silent, refl, does)
  first_made (In set) does = (In set, some_unless In set (read does.0.0) does.0.1, does)
  first_made (Out set) does = absurd (no_symbol_of read set does.1)
  first_made (Same set) does = absurd (no_symbol does.0.0 (does.1 ∙ does.0.2))

  pub second_made : (kind : Kind) → Does read kind [] output → (made : Kind) × (second_alone kind ≡ Some made) × Does read made [] output
  second_made Silent does = (Silent, refl, does)
  second_made (In set) does = absurd (no_symbol_of read set does.0)
  second_made (Out set) does = (Out set, some_unless Out set (read does.1.0) does.1.1, does)
  second_made (Same set) does = absurd (no_symbol_of read set does.0)

  pub both_made : (first second : Kind) (c : ℕ) → Does read first input (c ∷ []) → Does read second (c ∷ []) output
      → (made : Kind) × (both_by_letter first second ≡ Some made) × Does read made input output
  both_made Silent second c one two = absurd (no_symbol c (sym one.1))
  both_made (In s) second c one two = absurd (no_symbol c (sym one.1))
  both_made (Out s) Silent c one two = absurd (no_symbol c (sym two.0))
  both_made (Out s) (In t) c one two =
      let here = both_common s t (read c) (one_symbol read s c one.1) (one_symbol read t c two.0) in
      (Silent, some_unless (λ _. Silent) (common s t) (read c) here, (one.0, two.1))
  both_made (Out s) (Out t) c one two = absurd (no_symbol c (sym two.0))
  both_made (Out s) (Same t) c one two =
      let here = both_common s t (read c) (one_symbol read s c one.1) (one_symbol read t c two.0) in
      (Out (common s t), some_unless Out (common s t) (read c) here, (one.0, (c, here, two.1)))
  both_made (Same s) Silent c one two = absurd (no_symbol c (sym two.0))
  both_made (Same s) (In t) c one two =
      let here = both_common s t (read c) (one_symbol read s c (subst (λ w. IsSymbolOf read s w) (sym one.1) one.0)) (one_symbol read t c two.0) in
      (In (common s t), some_unless In (common s t) (read c) here, ((c, here, sym one.1), two.1))
  both_made (Same s) (Out t) c one two = absurd (no_symbol c (sym two.0))
  both_made (Same s) (Same t) c one two =
      let here = both_common s t (read c) (one_symbol read s c (subst (λ w. IsSymbolOf read s w) (sym one.1) one.0)) (one_symbol read t c two.0) in
      (Same (common s t), some_unless Same (common s t) (read c) here, ((c, here, sym one.1), two.1 ∙ one.1))

-- ---- over letters each that is made can be done

abbrev pub CanBeDone : Kind → Type 0
CanBeDone kind = (input : List ℕ) × (output : List ℕ) × Does (λ k. k) kind input output

unless_can : (f : List Bool → Kind) (set : List Bool) (made : Kind) → ((k : ℕ) → has set k ≡ true → CanBeDone (f set)) → option_map f (unless_empty set) ≡ Some made → CanBeDone made
unless_can f set made can e =
    let some = unless_some f (list_any (λ b. b) set) set made e in
    let letter = some_letter set some.0 in
    subst CanBeDone some.1 (can letter.0 letter.1)

pub first_can : (kind made : Kind) → first_alone kind ≡ Some made → CanBeDone made
first_can Silent made e = subst CanBeDone (same_Some Silent made e) ([], [], (refl, refl))
first_can (In set) made e = unless_can In set made (λ k among. (k ∷ [], [], ((k, among, refl), refl))) e
first_can (Out set) made e = absurd (none-some made e)
first_can (Same set) made e = absurd (none-some made e)

pub second_can : (kind made : Kind) → second_alone kind ≡ Some made → CanBeDone made
second_can Silent made e = subst CanBeDone (same_Some Silent made e) ([], [], (refl, refl))
second_can (In set) made e = absurd (none-some made e)
second_can (Out set) made e = unless_can Out set made (λ k among. ([], k ∷ [], (refl, (k, among, refl)))) e
second_can (Same set) made e = absurd (none-some made e)

pub both_can : (first second made : Kind) → both_by_letter first second ≡ Some made → CanBeDone made
both_can Silent second made e = absurd (none-some made e)
both_can (In s) second made e = absurd (none-some made e)
both_can (Out s) Silent made e = absurd (none-some made e)
both_can (Out s) (In t) made e = unless_can (λ _. Silent) (common s t) made (λ k among. ([], [], (refl, refl))) e
both_can (Out s) (Out t) made e = absurd (none-some made e)
both_can (Out s) (Same t) made e = unless_can Out (common s t) made (λ k among. ([], k ∷ [], (refl, (k, among, refl)))) e
both_can (Same s) Silent made e = absurd (none-some made e)
both_can (Same s) (In t) made e = unless_can In (common s t) made (λ k among. (k ∷ [], [], ((k, among, refl), refl))) e
both_can (Same s) (Out t) made e = absurd (none-some made e)
both_can (Same s) (Same t) made e = unless_can Same (common s t) made (λ k among. (k ∷ [], k ∷ [], ((k, among, refl), refl))) e

-- ---- a set has one boolean for each letter

module _ (letters : ℕ) where
  unless_sized : (f : List Bool → Kind) (set : List Bool) (made : Kind) → IsSized letters (f set) → option_map f (unless_empty set) ≡ Some made → IsSized letters made
  unless_sized f set made sized e = subst (IsSized letters) (unless_some f (list_any (λ b. b) set) set made e).1 sized

  common_sized : (s t : List Bool) → length s ≡ letters → length (common s t) ≡ letters
  common_sized s t size = length-map-range_with_len (λ k. has s k && has t k) 0 (length s) ∙ size

  pub first_sized : (kind made : Kind) → IsSized letters kind → first_alone kind ≡ Some made → IsSized letters made
  first_sized Silent made sized e = subst (IsSized letters) (same_Some Silent made e) sized
  first_sized (In set) made sized e = unless_sized In set made sized e
  first_sized (Out set) made sized e = absurd (none-some made e)
  first_sized (Same set) made sized e = absurd (none-some made e)

  pub second_sized : (kind made : Kind) → IsSized letters kind → second_alone kind ≡ Some made → IsSized letters made
  second_sized Silent made sized e = subst (IsSized letters) (same_Some Silent made e) sized
  second_sized (In set) made sized e = absurd (none-some made e)
  second_sized (Out set) made sized e = unless_sized Out set made sized e
  second_sized (Same set) made sized e = absurd (none-some made e)

  pub both_sized : (first second made : Kind) → IsSized letters first → both_by_letter first second ≡ Some made → IsSized letters made
  both_sized Silent second made sized e = absurd (none-some made e)
  both_sized (In s) second made sized e = absurd (none-some made e)
  both_sized (Out s) Silent made sized e = absurd (none-some made e)
  both_sized (Out s) (In t) made sized e = unless_sized (λ _. Silent) (common s t) made tt e
  both_sized (Out s) (Out t) made sized e = absurd (none-some made e)
  both_sized (Out s) (Same t) made sized e = unless_sized Out (common s t) made (common_sized s t sized) e
  both_sized (Same s) Silent made sized e = absurd (none-some made e)
  both_sized (Same s) (In t) made sized e = unless_sized In (common s t) made (common_sized s t sized) e
  both_sized (Same s) (Out t) made sized e = absurd (none-some made e)
  both_sized (Same s) (Same t) made sized e = unless_sized Same (common s t) made (common_sized s t sized) e
