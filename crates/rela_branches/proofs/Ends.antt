-- Where words lead from each of many sets.
use Rattle.std.proofs.Common.{zero, suc, inl, ◌≡◌, ℕ, ◌+◌, ◌<◌, ◌≤◌, ◌↔◌, ◌⊎◌, Bool, true, false, List, [], ◌∷◌, length, get_or, Result, Ok, Err, arith, refl, sym, ap, subst, ◌∙◌}
use Rattle.std.specs.Prelude.{IfOk}
use Rattle.std.proofs.lemmas.List.Elements.{All-nil, All-cons}
use Rattle.std.proofs.lemmas.List.FromFn.{get_or-map-range_with_len, length-map-range_with_len}
use Rattle.rela_rir.specs.Words.{Concatenation, Star}
use Rattle.rela_branches.specs.Places.{AllBelow, AreBelow, AreJoined, AreKept, AreNext, AreReached, Each, EachOfTwo, Has, Leads}
use Rattle.rela_branches.specs.Walks.{IsLed, IsStep, singles}
use Rattle.rela_branches.specs.declared.letters.Letter.{Letter}
use Rattle.rela_rir.specs.declared.set.SymbolSet.{SymbolSet}
use Rattle.rela_branches.proofs.Steps.{Symbols, step_led}
use Rattle.std.proofs.lemmas.List.{append-nil, get_or_default}
use Rattle.rela_branches.proofs.Eaches.{at}
use Rattle.rela_branches.proofs.Members.{follow}
use Rattle.rela_branches.proofs.Led.{WordSet, Chosen, alone, same_rest, IsRows, alt_led, empty_led, kept_led, led_same, next_led, onward, row_led, rows_long, seq_led, single_at, singles_long, star_led}

abbrev Sets : Type 0
Sets = List (List ℕ)

pub if_ok : {A E : Type 0} (P Q : A → Type 0) (r : Result A E) → ((a : A) → P a → Q a) → IfOk r P → IfOk r Q
if_ok P Q (Ok a) f p = f a p
if_ok P Q (Err e) f p = tt

pub each_map : (R S : List ℕ → List ℕ → Type 0) (from to : Sets) → Each R from to
    → ((k : ℕ) → k < length from → R (at from k) (at to k) → S (at from k) (at to k)) → Each S from to
each_map R S from to each f = record { long = each.long; at = λ k inside. f k inside (each.at k inside) }

pub singles_below : (shown sets : Sets) (b n : ℕ) → shown ≡ sets → sets ≡ singles b → b ≡ n → AllBelow n shown
singles_below shown sets b n same is bound =
    subst (AllBelow n) (sym (same ∙ is ∙ ap singles bound)) (λ k inside.
    let long : length (singles n) ≡ n = length-map-range_with_len (λ (j : ℕ). j ∷ (let none : List ℕ = [] in none)) 0 n in
    let below : k < n = omega arith in
    let one : at (singles n) k ≡ k ∷ [] = get_or-map-range_with_len (λ (j : ℕ). j ∷ (let none : List ℕ = [] in none)) 0 n k k [] below (omega arith) in
    subst (AreBelow n) (sym one) (All-cons (λ i. i < n) k [] below (All-nil (λ i. i < n))))

module _ (word : List ℕ) where
  pub ends_below : (X : WordSet) (from sets shown : Sets) (n : ℕ) → Each (IsLed word X) from sets → shown ≡ sets → n ≡ length word + 1 → AllBelow n shown
  ends_below X from sets shown n each same is =
      subst (λ (m : ℕ). AllBelow m shown) (sym is)
      (subst (AllBelow (length word + 1)) (sym same) (λ k inside. let long = each.long in (each.at k (omega arith)).below))

  pub by_words : (X Y : WordSet) (from to : Sets) → Y ≡ X → Each (IsLed word X) from to → Each (IsLed word Y) from to
  by_words X Y from to same each = subst (λ (Z : WordSet). Each (IsLed word Z) from to) (sym same) each

  pub same_ends : (X Y : WordSet) (from to : Sets) → ((w : List ℕ) → X w ↔ Y w) → Each (IsLed word X) from to → Each (IsLed word Y) from to
  same_ends X Y from to same each = each_map (IsLed word X) (IsLed word Y) from to each (λ k inside led. led_same word X Y (at from k) (at to k) same led)

  pub empty_ends : (from to : Sets) → AllBelow (length word + 1) from → Each (λ set copy. copy ≡ set) from to → Each (IsLed word (λ w. w ≡ [])) from to
  empty_ends from to below each =
      each_map (λ set copy. copy ≡ set) (IsLed word (λ w. w ≡ [])) from to each (λ k inside same. empty_led word (at from k) (at to k) (below k inside) same)

  pub seq_ends : (X Y : WordSet) (from middle shown to : Sets) → Each (IsLed word X) from middle → shown ≡ middle → Each (IsLed word Y) shown to
      → Each (IsLed word (Concatenation X Y)) from to
  seq_ends X Y from middle shown to one same two =
      let other : Each (IsLed word Y) middle to = subst (λ (sets : Sets). Each (IsLed word Y) sets to) same two in record {
        long = other.long ∙ one.long;
        at = λ k inside.
            let long = one.long in
            seq_led word X Y (at from k) (at middle k) (at to k) (one.at k inside) (other.at k (omega arith));
      }

  pub alt_ends : (X Y : WordSet) (from first second first' second' to : Sets) (n : ℕ) → Each (IsLed word X) from first → Each (IsLed word Y) from second → first' ≡ first
      → second' ≡ second → n ≡ length word + 1 → EachOfTwo (AreJoined n) first' second' to → Each (IsLed word (λ w. X w ⊎ Y w)) from to
  alt_ends X Y from first second first' second' to n one two same other is joined =
      let first_joined : EachOfTwo (AreJoined n) first second' to = subst (λ (sets : Sets). EachOfTwo (AreJoined n) sets second' to) same joined in
      let both_joined : EachOfTwo (AreJoined n) first second to = subst (λ (sets : Sets). EachOfTwo (AreJoined n) first sets to) other first_joined in
      let all : EachOfTwo (AreJoined (length word + 1)) first second to = subst (λ (m : ℕ). EachOfTwo (AreJoined m) first second to) is both_joined in record {
        long = all.long ∙ one.long;
        at = λ k inside.
            let long = one.long in
            alt_led word X Y (at from k) (at first k) (at second k) (at to k) (one.at k inside) (two.at k inside) (all.at k (omega arith));
      }

  pub as_rows : (X : WordSet) (shown sets rows : Sets) (b : ℕ) → shown ≡ sets → sets ≡ singles b → b ≡ length word + 1 → Each (IsLed word X) shown rows
      → IsRows word X rows
  as_rows X shown sets rows b same is bound each = subst (λ (from : Sets). Each (IsLed word X) from rows) (same ∙ is ∙ ap singles bound) each

  pub rows_below : (X : WordSet) (rows shown : Sets) (n : ℕ) → IsRows word X rows → shown ≡ rows → n ≡ length word + 1 → AllBelow n shown
  rows_below X rows shown n is same bound = ends_below X (singles (length word + 1)) rows shown n is same bound

  pub shown_long : (X : WordSet) (rows shown : Sets) → IsRows word X rows → shown ≡ rows → length shown ≡ length word + 1
  shown_long X rows shown is same = ap length same ∙ rows_long word X rows is

  kept_rows : (common : Bool) (X Y : WordSet) (first second rows : Sets) → IsRows word X first → IsRows word Y second
      → EachOfTwo (AreKept (length word + 1) common) first second rows → IsRows word (Chosen word common X Y) rows
  kept_rows common X Y first second rows one two kept = record {
    long = kept.long ∙ one.long;
    at = λ k inside.
        let long = singles_long word in
        let below : k < length word + 1 = omega arith in
        let first_long = rows_long word X first one in
        subst (λ (from : List ℕ). IsLed word (Chosen word common X Y) from (at rows k)) (sym (single_at word k below))
        (kept_led word common X Y k (at first k) (at second k) (at rows k) (row_led word X first k one below) (row_led word Y second k two below) (kept.at k (omega arith)));
  }

  next_ends : (X : WordSet) (rows from to : Sets) → IsRows word X rows → AllBelow (length word + 1) from → Each (AreNext rows) from to → Each (IsLed word X) from to
  next_ends X rows from to is below each =
      each_map (AreNext rows) (IsLed word X) from to each (λ k inside next. next_led word X rows (at from k) (at to k) is (below k inside) next)

  pub kept_ends : (common : Bool) (X Y : WordSet) (first second first' second' from to : Sets) → IsRows word X first → IsRows word Y second → first' ≡ first → second' ≡ second
      → AllBelow (length word + 1) from
      → (rows : Sets) × EachOfTwo (AreKept (length first') common) first' second' rows × Each (AreNext rows) from to
      → Each (IsLed word (Chosen word common X Y)) from to
  kept_ends common X Y first second first' second' from to one two same other below made =
      let long : length first' ≡ length word + 1 = shown_long X first first' one same in
      let all : EachOfTwo (AreKept (length word + 1) common) first second made.0 =
      subst (λ (m : ℕ). EachOfTwo (AreKept m common) first second made.0) long
      (subst (λ (sets : Sets). EachOfTwo (AreKept (length first') common) first sets made.0) other
      (subst (λ (sets : Sets). EachOfTwo (AreKept (length first') common) sets second' made.0) same made.1)) in
      next_ends (Chosen word common X Y) made.0 from to (kept_rows common X Y first second made.0 one two all) below made.2

  pub onward_shown : (X : WordSet) (rows shown : Sets) → IsRows word X rows → shown ≡ rows → (i j : ℕ) → Leads shown i j → i ≤ j
  onward_shown X rows shown is same i j leads = onward word X rows is i j (subst (λ (sets : Sets). Leads sets i j) same leads)

  pub star_ends : (X : WordSet) (rows shown from to : Sets) → IsRows word X rows → shown ≡ rows → AllBelow (length word + 1) from → Each (AreReached shown) from to
      → Each (IsLed word (Star X)) from to
  star_ends X rows shown from to is same below each =
      let reached : Each (AreReached rows) from to = subst (λ (sets : Sets). Each (AreReached sets) from to) same each in
      each_map (AreReached rows) (IsLed word (Star X)) from to reached (λ k inside all. star_led word X rows is (at from k) (at to k) (below k inside) all)

pub shown_each : (R : List ℕ → List ℕ → Type 0) (shown from to : Sets) → shown ≡ from → Each R shown to → Each R from to
shown_each R shown from to same each = subst (λ (sets : Sets). Each R sets to) same each

-- the places that a symbol of the letter leads to, from each set, and from each place
module _ (classes : List SymbolSet) (symbols : ℕ) (word : List ℕ) (letter : Letter) where
  pub step_ends : (from to : Sets) → Each (IsStep classes symbols word letter) from to → Each (IsLed word (Symbols classes symbols word letter)) from to
  step_ends from to each =
      each_map (IsStep classes symbols word letter) (IsLed word (Symbols classes symbols word letter)) from to each
      (λ k inside step. step_led classes symbols word letter (at from k) (at to k) step)

  pub step_rows : (shown sets rows : Sets) (b : ℕ) → shown ≡ sets → sets ≡ singles b → b ≡ length word + 1 → Each (IsStep classes symbols word letter) shown rows
      → IsRows word (Symbols classes symbols word letter) rows
  step_rows shown sets rows b same is bound each = as_rows word (Symbols classes symbols word letter) shown sets rows b same is bound (step_ends shown rows each)

-- a meet, a complement, a star
module _ (word : List ℕ) (first second first' second' from to : Sets) where
  pub meet_ends : (X Y : WordSet) → IsRows word X first → IsRows word Y second → first' ≡ first → second' ≡ second → AllBelow (length word + 1) from
      → (rows : Sets) × EachOfTwo (AreKept (length first') true) first' second' rows × Each (AreNext rows) from to
      → Each (IsLed word (λ w. X w × Y w)) from to
  meet_ends X Y one two same other below made = kept_ends word true X Y first second first' second' from to one two same other below made

  pub not_ends : (X Y : WordSet) → IsRows word X first → IsRows word Y second → first' ≡ first → second' ≡ second → AllBelow (length word + 1) from
      → (rows : Sets) × EachOfTwo (AreKept (length first') false) first' second' rows × Each (AreNext rows) from to
      → Each (IsLed word (λ w. X w × (¬ Y w))) from to
  not_ends X Y one two same other below made = kept_ends word false X Y first second first' second' from to one two same other below made

pub made_below : (common : Bool) (first second rows shown : Sets) → EachOfTwo (AreKept (length first) common) first second rows → shown ≡ rows
    → AllBelow (length shown) shown
made_below common first second rows shown made same =
    subst (λ (sets : Sets). AllBelow (length sets) sets) (sym same)
    (subst (λ (n : ℕ). AllBelow n rows) (sym made.long) (λ k inside. let long = made.long in (made.at k (omega arith)).below))

-- the place before the word alone
pub start_below : (bound : ℕ) (shown sets : Sets) → shown ≡ sets → sets ≡ singles 1 → AllBelow (bound + 1) shown
start_below bound shown sets same is = subst (AllBelow (bound + 1)) (sym (same ∙ is)) (λ k inside. at_start bound k inside)
  where
    at_start : (bound k : ℕ) → k < 1 → AreBelow (bound + 1) (at (singles 1) k)
    at_start bound zero inside = All-cons (λ i. i < bound + 1) 0 [] (omega arith) (All-nil (λ i. i < bound + 1))
    at_start bound (suc k) inside = absurd (omega arith)

pub whole_word : (word : List ℕ) (Z : WordSet) (shown sets ends : Sets) (row last : List ℕ) (b : Bool) → shown ≡ sets → sets ≡ singles 1 → Each (IsLed word Z) shown ends
    → row ≡ get_or ends 0 row → last ≡ row → (b ≡ true) ↔ Has last (length word) → (b ≡ true) ↔ Z word
whole_word word Z shown sets ends row last b same is each at_row at_last told =
    let starts : Each (IsLed word Z) (singles 1) ends = subst (λ (from : Sets). Each (IsLed word Z) from ends) (same ∙ is) each in
    let led : IsLed word Z (0 ∷ []) (at ends 0) = starts.at 0 (omega arith) in
    let long : length ends ≡ 1 = starts.long in
    let first : last ≡ at ends 0 = at_last ∙ at_row ∙ get_or_default ends 0 row [] (omega arith) in
    follow told (follow (subst (λ (places : List ℕ). Has last (length word) ↔ Has places (length word)) first (λ h. h, λ h. h))
    (follow (led.has word [] (sym (append-nil word))) (
      λ a.
          let none : length a.start ≡ 0 = alone 0 (length a.start) a.begun in
          subst Z (same_rest a.start a.piece [] word (sym a.joined) none) a.in_set,
      λ z. record { start = []; piece = word; joined = refl; begun = inl refl; in_set = z },
    )))

-- one symbol alone
pub one_symbol : (t : ℕ) (w : List ℕ) → ((s : ℕ) × (w ≡ s ∷ []) × (s ≡ t)) ↔ (w ≡ t ∷ [])
one_symbol t w = (λ m. m.1 ∙ ap (λ (s : ℕ). s ∷ (let none : List ℕ = [] in none)) m.2, λ e. (t, e, refl))
