-- What is known of the halves of a cell, and the leaves of a cell from those of its halves.
use Rattle.std.proofs.Common.{◌≡◌, ◌∙◌, refl, sym, ap, subst, ℕ, ◌+◌, ◌-◌, ◌^◌, ◌<◌, ◌≤◌, ⊎_elim, inr, Bool, true, false, not, ◌&&◌, ◌||◌, cond, eqb, ltb, List, [], ◌∷◌, ◌++◌, length, get_or, Option, append_assoc, arith}
use Rattle.std.specs.List.{All, Contains, filter}
use Rattle.std.specs.List.Sorted.{IsNonDecreasingBy}
use Rattle.std.specs.Option.{option_or}
use Rattle.std.proofs.lemmas.Bool.{cases_lt, eq-eqb, eqb-true, lt-ltb, ltb-true, ltb-false}
use Rattle.std.proofs.lemmas.List.{map-append}
use Rattle.std.proofs.lemmas.List.Elements.{All-append, All-cons, All-nil, All-filter, All-weaker, filter_passes}
use Rattle.std.proofs.lemmas.List.Kept.{IsNonDecreasingBy-filter}
use Rattle.std.proofs.lemmas.Option.{slice_get_within, get_or_from_slice_get}
use Rattle.rela_flows.specs.declared.prefix.Ipv4Prefix.{Ipv4Prefix}
use Rattle.rela_prefixes.specs.declared.leaf.Halves.{Halves}
use Rattle.rela_prefixes.specs.declared.leaf.Leaf.{Leaf}
use Rattle.rela_prefixes.specs.declared.leaf.Numbered.{Numbered}
use Rattle.rela_prefixes.specs.Classes.{Adjoin, IsCut}
use Rattle.rela_prefixes.specs.Holding.{Holds, IsStrictlyWithin}
use Rattle.rela_prefixes.specs.Inside.{AreInside, IsAbove, IsInside, IsKnown, IsNumbered, IsRun, LongestAbove, middle_of, rank}
use Rattle.rela_prefixes.specs.Leaves.{HasLeaves, IsLeaf, cells}
use Rattle.rela_prefixes.specs.Longest.{LongestWanted}
use Rattle.rela_prefixes.specs.Split.{is_low, is_high, IsParted}
use Rattle.rela_prefixes.proofs.Cells.{size, from_first, before_end, holds_from, holds_own, half_is_size, two_halves}
use Rattle.rela_prefixes.proofs.Cutting.{UpTo, longest_same, longest_up_to, Contains-filter, leaf_is, uncut_when_empty, uncut_when_one}
use Rattle.rela_prefixes.proofs.Nesting.{all_held, within_from_first}
use Rattle.rela_prefixes.proofs.Splitting.{low_below, high_above}

pub middle_is : (cell : Ipv4Prefix) → cell.length < 32 → middle_of cell ≡ cell.address + 2 ^ (31 - cell.length)
middle_is cell short = ap (λ b. cond b (cell.address + 2 ^ (31 - cell.length)) cell.address) (lt-ltb cell.length 32 short)

-- the lower or the upper half of a cell
pub record IsHalf (cell half : Ipv4Prefix) (first : ℕ) : Type 0 where
  pub short : cell.length < 32
  pub address : half.address ≡ first
  pub length_is : half.length ≡ cell.length + 1

abbrev pub IsLowHalf : Ipv4Prefix → Ipv4Prefix → Type 0
IsLowHalf cell half = IsHalf cell half cell.address

abbrev pub IsHighHalf : Ipv4Prefix → Ipv4Prefix → Type 0
IsHighHalf cell half = IsHalf cell half (cell.address + 2 ^ (31 - cell.length))

-- a half ends where the middle is, or where the cell ends
half_size : (cell half : Ipv4Prefix) (first : ℕ) → IsHalf cell half first → size half.length ≡ 2 ^ (31 - cell.length)
half_size cell half first is = ap size is.length_is ∙ sym (half_is_size cell.length is.short)

low_begins : (cell half : Ipv4Prefix) → IsLowHalf cell half → Holds cell half.address
low_begins cell half is = subst (λ a. Holds cell a) (sym is.address) (holds_own cell)

high_begins : (cell half : Ipv4Prefix) → IsHighHalf cell half → Holds cell half.address
high_begins cell half is =
    holds_from cell half.address (omega (arith, is.address)) (let h = before_end half half.address (holds_own half) in omega (arith, is.address, two_halves cell.length is.short, h, half_size cell half _ is))

-- ---- the prefixes inside a half

-- what is inside a half is inside the cell, and longer
inside_cell : (cell half p : Ipv4Prefix) → half.length ≡ cell.length + 1 → Holds cell half.address → IsInside half p → IsInside cell p
inside_cell cell half p longer begins inside = record { begins = all_held half cell (omega (arith, longer)) begins p.address inside.begins; long = omega (arith, longer, inside.long) }

is_longer : (n length : ℕ) (rest : Bool) → (not (eqb n length) && rest) ≡ true → length ≤ n → length < n
is_longer n length rest e long = by (eqb n length) refl
  where
    by : (b : Bool) → eqb n length ≡ b → length < n
    by true same = absurd (let h : (not true && rest) ≡ true = ap (λ b. not b && rest) (sym same) ∙ e in cc)
    by false other = ⊎_elim (λ less. less) (λ more. absurd (let same : eqb n length ≡ true = eq-eqb n length (omega (arith, long, more)) in cc)) (cases_lt length n)

and_second : (a b : Bool) → (a && b) ≡ true → b ≡ true
and_second true b e = e
and_second false b e = absurd (cc)

not_true : (b : Bool) → not b ≡ true → b ≡ false
not_true true e = absurd (cc)
not_true false e = refl

low_inside : (prefixes : List Ipv4Prefix) (cell half : Ipv4Prefix) (n : Numbered) → IsLowHalf cell half → IsNumbered prefixes cell n → is_low cell.length (middle_of cell) n ≡ true → IsNumbered prefixes half n
low_inside prefixes cell half n is numbered passes =
    let below : n.prefix.address < middle_of cell = ltb-true n.prefix.address (middle_of cell) (and_second (not (eqb n.prefix.length cell.length)) (ltb n.prefix.address (middle_of cell)) passes) in
    let longer : cell.length < n.prefix.length = is_longer n.prefix.length cell.length (ltb n.prefix.address (middle_of cell)) passes numbered.inside.long in
    record {
      at = numbered.at;
      inside = record {
        begins = holds_from half n.prefix.address (omega (arith, is.address, from_first cell n.prefix.address numbered.inside.begins)) (omega (arith, is.address, below, middle_is cell is.short, half_size cell half _ is));
        long = omega (arith, longer, is.length_is);
      };
    }

high_inside : (prefixes : List Ipv4Prefix) (cell half : Ipv4Prefix) (n : Numbered) → IsHighHalf cell half → IsNumbered prefixes cell n → is_high cell.length (middle_of cell) n ≡ true → IsNumbered prefixes half n
high_inside prefixes cell half n is numbered passes =
    let above : middle_of cell ≤ n.prefix.address = ltb-false n.prefix.address (middle_of cell) (not_true (ltb n.prefix.address (middle_of cell)) (and_second (not (eqb n.prefix.length cell.length)) (not (ltb n.prefix.address (middle_of cell))) passes)) in
    let longer : cell.length < n.prefix.length = is_longer n.prefix.length cell.length (not (ltb n.prefix.address (middle_of cell))) passes numbered.inside.long in
    record {
      at = numbered.at;
      inside = record {
        begins = holds_from half n.prefix.address (omega (arith, is.address, above, middle_is cell is.short)) (omega (arith, is.address, before_end cell n.prefix.address numbered.inside.begins, two_halves cell.length is.short, half_size cell half _ is));
        long = omega (arith, longer, is.length_is);
      };
    }

pub low_known : (prefixes : List Ipv4Prefix) (cell half : Ipv4Prefix) (ns : List Numbered) → IsLowHalf cell half → AreInside prefixes cell ns → AreInside prefixes half (filter (is_low cell.length (middle_of cell)) ns)
low_known prefixes cell half ns is inside =
    let test : Numbered → Bool = is_low cell.length (middle_of cell) in
    record {
      each = λ k d lt. low_inside prefixes cell half (get_or (filter test ns) k d) is (All-filter test (IsNumbered prefixes cell) ns inside.each k d lt) (filter_passes test ns k d lt);
      every = λ k p at one.
          let n : Numbered = record { prefix = p; number = k } in
          let listed : Contains ns n = inside.every k p at (inside_cell cell half p is.length_is (low_begins cell half is) one) in
          Contains-filter test ns n listed.0 listed.1 listed.2 (low_below cell.length (middle_of cell) n (omega (arith, one.long, is.length_is)) (omega (arith, before_end half p.address one.begins, half_size cell half _ is, is.address, middle_is cell is.short)));
    }

pub high_known : (prefixes : List Ipv4Prefix) (cell half : Ipv4Prefix) (ns : List Numbered) → IsHighHalf cell half → AreInside prefixes cell ns → AreInside prefixes half (filter (is_high cell.length (middle_of cell)) ns)
high_known prefixes cell half ns is inside =
    let test : Numbered → Bool = is_high cell.length (middle_of cell) in
    record {
      each = λ k d lt. high_inside prefixes cell half (get_or (filter test ns) k d) is (All-filter test (IsNumbered prefixes cell) ns inside.each k d lt) (filter_passes test ns k d lt);
      every = λ k p at one.
          let n : Numbered = record { prefix = p; number = k } in
          let listed : Contains ns n = inside.every k p at (inside_cell cell half p is.length_is (high_begins cell half is) one) in
          Contains-filter test ns n listed.0 listed.1 listed.2 (high_above cell.length (middle_of cell) n (omega (arith, one.long, is.length_is)) (omega (arith, from_first half p.address one.begins, is.address, middle_is cell is.short)));
    }

-- ---- the longest above a half

pub half_above : (prefixes : List Ipv4Prefix) (cell half : Ipv4Prefix) (r : Option ℕ) → half.length ≡ cell.length + 1 → LongestWanted (UpTo cell half.address) prefixes r → LongestAbove prefixes half r
half_above prefixes cell half r longer h = longest_same (UpTo cell half.address) (IsAbove half) prefixes r
    (λ k p at. ((λ up. record { holds = up.0; short = omega (arith, up.1, longer) }), λ above. (above.holds, omega (arith, above.short, longer)))) h

-- ---- a half is reached where something is in a half

cut_by : (prefixes : List Ipv4Prefix) (cell : Ipv4Prefix) (ns : List Numbered) (test : Numbered → Bool) → AreInside prefixes cell ns
    → ((n : Numbered) → IsNumbered prefixes cell n → test n ≡ true → cell.length < n.prefix.length) → (length (filter test ns) ≡ 0 → ⊥) → IsCut prefixes cell
cut_by prefixes cell ns test inside longer some = by (filter test ns) refl
  where
    by : (kept : List Numbered) → filter test ns ≡ kept → IsCut prefixes cell
    by [] e = absurd (some (ap length e))
    by (n ∷ more) e =
        let numbered : IsNumbered prefixes cell n = subst (λ kept. All (IsNumbered prefixes cell) kept) e (All-filter test (IsNumbered prefixes cell) ns inside.each) 0 n (omega arith) in
        let passes : test n ≡ true = subst (λ kept. All (λ x. test x ≡ true) kept) e (filter_passes test ns) 0 n (omega arith) in
        (n.number, n.prefix, slice_get_within prefixes n.number n.prefix numbered.at, get_or_from_slice_get prefixes n.number n.prefix n.prefix numbered.at, within_from_first n.prefix cell (longer n numbered passes) numbered.inside.begins)

pub is_cut : (prefixes : List Ipv4Prefix) (cell : Ipv4Prefix) (ns : List Numbered) (parts : Halves) → AreInside prefixes cell ns → parts.low.now ≡ filter (is_low cell.length (middle_of cell)) ns → parts.high.now ≡ filter (is_high cell.length (middle_of cell)) ns
    → (length parts.low.now ≡ 0 → length parts.high.now ≡ 0 → ⊥) → IsCut prefixes cell
is_cut prefixes cell ns parts inside l h some = ⊎_elim
    (λ low. cut_by prefixes cell ns (is_low cell.length (middle_of cell)) inside (λ n numbered passes. is_longer n.prefix.length cell.length _ passes numbered.inside.long) (λ none. omega (arith, none, ap length l, low)))
    (λ low. cut_by prefixes cell ns (is_high cell.length (middle_of cell)) inside (λ n numbered passes. is_longer n.prefix.length cell.length _ passes numbered.inside.long) (λ none. some (omega (arith, low)) (ap length h ∙ none)))
    (cases_lt 0 (length parts.low.now))

-- ---- the leaves

pub Adjoin-append : (from mid to : ℕ) (xs ys : List Ipv4Prefix) → Adjoin from xs mid → Adjoin mid ys to → Adjoin from (xs ++ ys) to
Adjoin-append from mid to [] ys h i = subst (λ f. Adjoin f ys to) (sym h) i
Adjoin-append from mid to (x ∷ xs) ys h i = (h.0, Adjoin-append (from + 2 ^ (32 - x.length)) mid to xs ys h.1 i)

-- what is known of a cell has its prefixes in their order
run_of : (prefixes : List Ipv4Prefix) (cell : Ipv4Prefix) (ns : List Numbered) (above : Option ℕ) → IsKnown prefixes cell ns above → IsRun cell ns
run_of prefixes cell ns above known = record {
  within = All-weaker (IsNumbered prefixes cell) (λ n. IsInside cell n.prefix) (λ n numbered. numbered.inside) ns known.inside.each;
  ranked = known.ranked;
}

uncut_by : (prefixes : List Ipv4Prefix) (cell : Ipv4Prefix) (ns : List Numbered) (parts : Halves) → AreInside prefixes cell ns → IsParted cell ns parts → (one low high : Bool) → eqb cell.length 32 ≡ one → eqb (length parts.low.now) 0 ≡ low → eqb (length parts.high.now) 0 ≡ high
    → (one || (low && high)) ≡ true → All (λ p. ¬ IsStrictlyWithin p cell) prefixes
uncut_by prefixes cell ns parts inside parted true low high o l h e = uncut_when_one prefixes cell (eqb-true cell.length 32 o)
uncut_by prefixes cell ns parts inside parted false true true o l h e =
    uncut_when_empty prefixes cell ns parts.low.now parts.high.now (middle_of cell) inside parted.low parted.high (eqb-true (length parts.low.now) 0 l) (eqb-true (length parts.high.now) 0 h)
uncut_by prefixes cell ns parts inside parted false true false o l h e = absurd (cc)
uncut_by prefixes cell ns parts inside parted false false high o l h e = absurd (cc)

pub leaf_added : (cell : Ipv4Prefix) (ns : List Numbered) (above longest : Option ℕ) (parts : Halves) (old new : List Leaf) → (IsRun cell ns → IsParted cell ns parts) → longest ≡ option_or parts.here above → eqb cell.length 32 || (eqb (length parts.low.now) 0 && eqb (length parts.high.now) 0) ≡ true
    → new ≡ old ++ record { cell = cell; longest = longest } ∷ [] → HasLeaves cell ns above old new
unfolding HasLeaves
leaf_added cell ns above longest parts old new split is uncut pushed prefixes known =
    let parted : IsParted cell ns parts = split (run_of prefixes cell ns above known) in
    let none : All (λ p. ¬ IsStrictlyWithin p cell) prefixes = uncut_by prefixes cell ns parts known.inside parted _ _ _ refl refl refl uncut in
    let leaf : Leaf = record { cell = cell; longest = longest } in
    let made : IsLeaf prefixes leaf = subst (λ r. IsLeaf prefixes (record { cell = cell; longest = r })) (sym is) (leaf_is prefixes cell ns above parts.here known parted.here parted.none none) in
    (leaf ∷ [], pushed, record { each = All-cons (IsLeaf prefixes) leaf [] made (All-nil (IsLeaf prefixes)); adjoin = (refl, refl) })

cut_when : (a b c : Bool) → (a || (b && c)) ≡ false → b ≡ true → c ≡ true → ⊥
cut_when true b c e x y = absurd (cc)
cut_when false b c e x y = let h : (b && c) ≡ true = ap (λ v. v && c) x ∙ y in absurd (cc)

pub short_when : (n : ℕ) (rest : Bool) → n ≤ 32 → (eqb n 32 || rest) ≡ false → n < 32
short_when n rest fits e = ⊎_elim (λ less. less) (λ more. absurd (let same : eqb n 32 ≡ true = eq-eqb n 32 (omega (arith, fits, more)) in let h : (true || rest) ≡ false = ap (λ b. b || rest) (sym same) ∙ e in cc)) (cases_lt n 32)

pub halves_added : (cell low high : Ipv4Prefix) (ns : List Numbered) (above longest : Option ℕ) (parts : Halves) (old mid new : List Leaf) → (IsRun cell ns → IsParted cell ns parts) → longest ≡ option_or parts.here above
    → eqb cell.length 32 || (eqb (length parts.low.now) 0 && eqb (length parts.high.now) 0) ≡ false
    → IsLowHalf cell low → IsHighHalf cell high → HasLeaves low parts.low.now longest old mid → HasLeaves high parts.high.now longest mid new → HasLeaves cell ns above old new
unfolding HasLeaves
halves_added cell low high ns above longest parts old mid new split is cut is_low_half is_high_half first second prefixes known =
    let parted : IsParted cell ns parts = split (run_of prefixes cell ns above known) in
    let reached : IsCut prefixes cell = is_cut prefixes cell ns parts known.inside parted.low parted.high (λ l h. cut_when _ _ _ cut (eq-eqb _ _ l) (eq-eqb _ _ h)) in
    let at_low : LongestAbove prefixes low longest = subst (λ r. LongestAbove prefixes low r) (sym is) (half_above prefixes cell low _ is_low_half.length_is (longest_up_to prefixes cell ns above parts.here low.address known parted.here parted.none (low_begins cell low is_low_half))) in
    let at_high : LongestAbove prefixes high longest = subst (λ r. LongestAbove prefixes high r) (sym is) (half_above prefixes cell high _ is_high_half.length_is (longest_up_to prefixes cell ns above parts.here high.address known parted.here parted.none (high_begins cell high is_high_half))) in
    let know_low : IsKnown prefixes low parts.low.now longest = record {
      inside = subst (AreInside prefixes low) (sym parted.low) (low_known prefixes cell low ns is_low_half known.inside);
      ranked = subst (IsNonDecreasingBy rank) (sym parted.low) (IsNonDecreasingBy-filter rank (is_low cell.length (middle_of cell)) ns known.ranked);
      above = at_low;
      reached = inr (cell, record { shorter = is_low_half.length_is; holds = low_begins cell low is_low_half }, reached);
    } in
    let know_high : IsKnown prefixes high parts.high.now longest = record {
      inside = subst (AreInside prefixes high) (sym parted.high) (high_known prefixes cell high ns is_high_half known.inside);
      ranked = subst (IsNonDecreasingBy rank) (sym parted.high) (IsNonDecreasingBy-filter rank (is_high cell.length (middle_of cell)) ns known.ranked);
      above = at_high;
      reached = inr (cell, record { shorter = is_high_half.length_is; holds = high_begins cell high is_high_half }, reached);
    } in
    let one = first prefixes know_low in
    let two = second prefixes know_high in
    let meet : low.address + size low.length ≡ high.address = omega (arith, is_low_half.address, is_high_half.address, half_size cell low _ is_low_half) in
    let end : high.address + size high.length ≡ cell.address + size cell.length = omega (arith, is_high_half.address, half_size cell high _ is_high_half, two_halves cell.length is_low_half.short) in
    let adjoin : Adjoin cell.address (cells one.0 ++ cells two.0) (cell.address + size cell.length) =
    Adjoin-append cell.address (low.address + size low.length) (cell.address + size cell.length) (cells one.0) (cells two.0)
    (subst (λ f. Adjoin f (cells one.0) (low.address + size low.length)) is_low_half.address one.2.adjoin)
    (subst (λ f. Adjoin f (cells two.0) (cell.address + size cell.length)) (sym meet) (subst (λ t. Adjoin high.address (cells two.0) t) end two.2.adjoin)) in (
      one.0 ++ two.0,
      two.1 ∙ ap (λ xs. xs ++ two.0) one.1 ∙ append_assoc old one.0 two.0,
      record {
        each = All-append (IsLeaf prefixes) one.0 two.0 one.2.each two.2.each;
        adjoin = subst (λ cs. Adjoin cell.address cs (cell.address + size cell.length)) (sym (map-append (λ (leaf : Leaf). leaf.cell) one.0 two.0)) adjoin;
      },
    )
