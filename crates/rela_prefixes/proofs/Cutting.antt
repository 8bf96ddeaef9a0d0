-- What is known of a cell, of its halves, and of the leaf that it is where nothing cuts it.
use Rattle.std.proofs.Common.{◌≡◌, ◌≢◌, ◌∙◌, sym, ap, subst, ℕ, zero, suc, ◌<◌, ◌≤◌, ◌↔◌, ◌⊎◌, ⊎_elim, inl, inr, Bool, true, false, cond, List, [], ◌∷◌, length, get_or, Option, Some, None, IfSome, IfNone, arith}
use Rattle.std.specs.Prelude.{slice_get}
use Rattle.std.specs.List.{All, Contains, filter}
use Rattle.std.specs.Option.{option_or}
use Rattle.std.proofs.lemmas.Bool.{cases_lt}
use Rattle.std.proofs.lemmas.List.Elements.{All-contains, Contains-append_right}
use Rattle.std.proofs.lemmas.Option.{slice_get-get_or, slice_get_within, get_or_from_slice_get}
use Rattle.rela_flows.specs.declared.prefix.Ipv4Prefix.{Ipv4Prefix}
use Rattle.rela_prefixes.specs.declared.leaf.Numbered.{Numbered}
use Rattle.rela_prefixes.specs.Holding.{Holds, IsStrictlyWithin}
use Rattle.rela_prefixes.specs.Inside.{AreInside, IsAbove, IsKnown, IsNumbered}
use Rattle.rela_prefixes.specs.Leaves.{IsLeaf}
use Rattle.rela_prefixes.specs.Longest.{Longest, LongestWanted}
use Rattle.rela_prefixes.specs.Split.{is_low, is_high, IsHere, NoneHere}
use Rattle.rela_prefixes.proofs.Cells.{holds_own}
use Rattle.rela_prefixes.proofs.Nesting.{all_held, first_held, within_from_first, first_of_within}
use Rattle.rela_prefixes.proofs.Splitting.{low_below, high_above}

-- ---- lists

pub at_of : {X : Type 0} (P : X → Type 0) (xs : List X) (k : ℕ) (x : X) → slice_get xs k ≡ Some x → All P xs → P x
at_of P xs k x at each = subst P (get_or_from_slice_get xs k x x at) (each k x (slice_get_within xs k x at))

-- what is in a list and passes is in what the filter keeps
pub Contains-filter : {X : Type 0} (p : X → Bool) (xs : List X) (x : X) (k : ℕ) → k < length xs → get_or xs k x ≡ x → p x ≡ true → Contains (filter p xs) x
Contains-filter p [] x k lt e passes = absurd (omega arith)
Contains-filter p (y ∷ ys) x zero lt e passes =
    let own : p y ≡ true = ap p e ∙ passes in
    subst (λ b. Contains (cond b (y ∷ filter p ys) (filter p ys)) x) (sym own) (0, omega arith, e)
Contains-filter {X} p (y ∷ ys) x (suc k) lt e passes = by (p y) (Contains-filter p ys x k (omega arith) e passes)
  where
    by : (b : Bool) → Contains (filter p ys) x → Contains (cond b (y ∷ filter p ys) (filter p ys)) x
    by true rest = Contains-append_right (y ∷ []) (filter p ys) x rest
    by false rest = rest

pub none_in_empty : {X : Type 0} (xs : List X) (x : X) → length xs ≡ 0 → Contains xs x → ⊥
none_in_empty xs x none h = absurd (omega (arith, none, h.1))

-- ---- another word for what is wanted

pub longest_same : (W V : Ipv4Prefix → Type 0) (prefixes : List Ipv4Prefix) (r : Option ℕ) → ((k : ℕ) (p : Ipv4Prefix) → slice_get prefixes k ≡ Some p → W p ↔ V p) → LongestWanted W prefixes r → LongestWanted V prefixes r
unfolding LongestWanted
longest_same W V prefixes None same h = λ k d lt v. h k d lt ((same k (get_or prefixes k d) (slice_get-get_or prefixes k d lt)).1 v)
longest_same W V prefixes (Some n) same h = record {
  prefix = h.prefix;
  at = h.at;
  wanted = (same n h.prefix h.at).0 h.wanted;
  longest = λ k d lt v. h.longest k d lt ((same k (get_or prefixes k d) (slice_get-get_or prefixes k d lt)).1 v);
}

-- ---- the longest prefix that isn't longer than the cell

abbrev pub UpTo : Ipv4Prefix → ℕ → Ipv4Prefix → Type 0
UpTo cell a p = Holds p a × (p.length ≤ cell.length)

above_is_up_to : (prefixes : List Ipv4Prefix) (cell : Ipv4Prefix) (ns : List Numbered) (a : ℕ) → AreInside prefixes cell ns → NoneHere cell.length ns → Holds cell a
    → (k : ℕ) (p : Ipv4Prefix) → slice_get prefixes k ≡ Some p → IsAbove cell p ↔ UpTo cell a p
above_is_up_to prefixes cell ns a inside none holds k p at = (
  (λ above. (all_held cell p (omega (arith, above.short)) above.holds a holds, omega (arith, above.short))),
  λ up. record {
    holds = first_held cell p a up.1 holds up.0;
    short = ⊎_elim (λ shorter. shorter) (λ long. absurd (
        let here : Contains ns (record { prefix = p; number = k }) = inside.every k p at (record { begins = first_held p cell a long up.0 holds; long = long }) in
        All-contains (λ (n : Numbered). n.prefix.length ≢ cell.length) ns (record { prefix = p; number = k }) none here (omega (arith, long, up.1)))) (cases_lt p.length cell.length);
  },
)

pub longest_up_to : (prefixes : List Ipv4Prefix) (cell : Ipv4Prefix) (ns : List Numbered) (above here : Option ℕ) (a : ℕ) → IsKnown prefixes cell ns above → IfSome here (IsHere cell.length ns) → IfNone here (NoneHere cell.length ns) → Holds cell a
    → LongestWanted (UpTo cell a) prefixes (option_or here above)
unfolding LongestWanted
longest_up_to prefixes cell ns above None a known one none holds =
    longest_same (IsAbove cell) (UpTo cell a) prefixes above (above_is_up_to prefixes cell ns a known.inside none holds) known.above
longest_up_to prefixes cell ns above (Some n) a known one none holds =
    let p = one.one.prefix in
    let numbered : IsNumbered prefixes cell one.one = All-contains (IsNumbered prefixes cell) ns one.one known.inside.each one.listed in
    let first : Holds p cell.address = first_held cell p p.address (omega (arith, one.length_is)) numbered.inside.begins (holds_own p) in
    record {
      prefix = p;
      at = subst (λ k. slice_get prefixes k ≡ Some p) one.number_is numbered.at;
      wanted = (all_held cell p (omega (arith, one.length_is)) first a holds, omega (arith, one.length_is));
      longest = λ k d lt up. omega (arith, up.1, one.length_is);
    }

-- ---- a leaf

pub leaf_longest : (prefixes : List Ipv4Prefix) (cell : Ipv4Prefix) (r : Option ℕ) (a : ℕ) → All (λ p. ¬ IsStrictlyWithin p cell) prefixes → Holds cell a → LongestWanted (UpTo cell a) prefixes r → Longest prefixes a r
leaf_longest prefixes cell r a uncut holds h = longest_same (UpTo cell a) (λ p. Holds p a) prefixes r
    (λ k p at. (
      (λ up. up.0),
      λ one. (one, ⊎_elim (λ longer. absurd (at_of (λ p. ¬ IsStrictlyWithin p cell) prefixes k p at uncut (within_from_first p cell longer (first_held p cell a (omega (arith, longer)) one holds)))) (λ short. short) (cases_lt cell.length p.length)),
    )) h

-- what lies strictly within a cell is in one of its halves
pub in_a_half : (prefixes : List Ipv4Prefix) (cell : Ipv4Prefix) (ns : List Numbered) (middle : ℕ) → AreInside prefixes cell ns → (k : ℕ) (p : Ipv4Prefix) → slice_get prefixes k ≡ Some p → IsStrictlyWithin p cell
    → Contains (filter (is_low cell.length middle) ns) (record { prefix = p; number = k }) ⊎ Contains (filter (is_high cell.length middle) ns) (record { prefix = p; number = k })
in_a_half prefixes cell ns middle inside k p at strict =
    let n : Numbered = record { prefix = p; number = k } in
    let listed : Contains ns n = inside.every k p at (record { begins = first_of_within p cell strict; long = omega (arith, strict.longer) }) in
    let other : p.length ≢ cell.length = omega (arith, strict.longer) in
    ⊎_elim
    (λ below. inl (Contains-filter (is_low cell.length middle) ns n listed.0 listed.1 listed.2 (low_below cell.length middle n other below)))
    (λ above. inr (Contains-filter (is_high cell.length middle) ns n listed.0 listed.1 listed.2 (high_above cell.length middle n other above)))
    (cases_lt p.address middle)

pub uncut_when_empty : (prefixes : List Ipv4Prefix) (cell : Ipv4Prefix) (ns low high : List Numbered) (middle : ℕ) → AreInside prefixes cell ns → low ≡ filter (is_low cell.length middle) ns → high ≡ filter (is_high cell.length middle) ns
    → length low ≡ 0 → length high ≡ 0 → All (λ p. ¬ IsStrictlyWithin p cell) prefixes
uncut_when_empty prefixes cell ns low high middle inside l h no_low no_high k d lt strict = ⊎_elim
    (λ one. none_in_empty _ _ (ap length (sym l) ∙ no_low) one) (λ one. none_in_empty _ _ (ap length (sym h) ∙ no_high) one)
    (in_a_half prefixes cell ns middle inside k (get_or prefixes k d) (slice_get-get_or prefixes k d lt) strict)

pub uncut_when_one : (prefixes : List Ipv4Prefix) (cell : Ipv4Prefix) → cell.length ≡ 32 → All (λ p. ¬ IsStrictlyWithin p cell) prefixes
uncut_when_one prefixes cell one k d lt strict = absurd (omega (arith, strict.longer, (get_or prefixes k d).length_fits, one))

pub leaf_is : (prefixes : List Ipv4Prefix) (cell : Ipv4Prefix) (ns : List Numbered) (above here : Option ℕ) → IsKnown prefixes cell ns above → IfSome here (IsHere cell.length ns) → IfNone here (NoneHere cell.length ns)
    → All (λ p. ¬ IsStrictlyWithin p cell) prefixes → IsLeaf prefixes (record { cell = cell; longest = option_or here above })
leaf_is prefixes cell ns above here known one none uncut = record {
  class = record { uncut = uncut; parent_cut = known.reached };
  longest = λ a holds. leaf_longest prefixes cell (option_or here above) a uncut holds (longest_up_to prefixes cell ns above here a known one none holds);
}
