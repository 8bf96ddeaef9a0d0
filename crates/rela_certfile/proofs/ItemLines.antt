-- Lines tell their items.
use Rattle.std.proofs.Common.{◌≡◌, ◌≢◌, ℕ, ◌^◌, ◌<◌, ◌≤◌, Bool, true, false, IsTrue, Option, None, Some, IsSome, List, [], ◌∷◌, ◌++◌, length, get_or, codes, refl, sym, ◌∙◌, ap, subst, ⊎_elim, lit≤, arith}
use Rattle.std.specs.List.{AllPairs, list_all, slice_get}
use Rattle.std.specs.Fmt.{decimal}
use Rattle.std.proofs.lemmas.Bool.{and_parts, cases_lt}
use Rattle.std.proofs.lemmas.List.{length-map}
use Rattle.std.proofs.lemmas.Fmt.{decimal_injective, decimal_is_IsNumeral, decimal_nonempty}
use Rattle.std.proofs.lemmas.Option.{slice_get_cases, get_or_from_slice_get}
use Rattle.std.proofs.lemmas.Str.Parse.{digit_from_value}
use Rattle.rela_names.specs.Name.{IsName, is_name_byte}
use Rattle.rela_flows.specs.declared.planning.PlannedRow.{PlannedRow}
use Rattle.rela_flows.specs.declared.planning.PlannedRow.TheVariants.{Selected, Unselected}
use Rattle.rela_certfile.specs.declared.rows.Step.{Step}
use Rattle.rela_certfile.specs.declared.item.Item.{Item}
use Rattle.rela_certfile.specs.declared.item.Item.TheVariants.{Word, Complement, Images, Row}
use Rattle.rela_certfile.specs.declared.item.State.{State}
use Rattle.rela_certfile.specs.Cut.{Lacks}
use Rattle.rela_certfile.specs.Layout.{Layout, IsLayout, IsNamed, check_names, shape_at, shape_of, row_line, title_of}
use Rattle.rela_certfile.specs.Text.{word_line}
use Rattle.rela_certfile.specs.Items.{item_line, Allowed}
use Rattle.rela_certfile.proofs.Cuts.{cut_once, lacks_both}
use Rattle.rela_certfile.proofs.Numerals.{decimal_lacks, digit_of_digits}

-- bytes that pass a test hold no byte that doesn't
pub bytes_lack : (p : ℕ → Bool) (s : ℕ) → p s ≡ false → (bytes : List ℕ) → IsTrue (list_all p bytes) → Lacks s bytes
bytes_lack p s none [] all = tt
bytes_lack p s none (c ∷ bytes) all = (
  (λ same.
      let is : p c ≡ true = (and_parts (p c) (list_all p bytes) all).0 in
      let not_one : p c ≡ false = ap p same ∙ none in
      cc),
  bytes_lack p s none bytes (and_parts (p c) (list_all p bytes) all).1,
)

pub name_lacks : (s : ℕ) → is_name_byte s ≡ false → (name : List ℕ) → IsName name → Lacks s name
name_lacks s none name is = bytes_lack is_name_byte s none name (and_parts _ (list_all is_name_byte name) is).1

-- different elements stand at different places
pub placed_once : {X : Type 0} (xs : List X) (i j : ℕ) (d : X) → AllPairs (λ a b. a ≢ b) xs → i < length xs → j < length xs → get_or xs i d ≡ get_or xs j d → i ≡ j
placed_once xs i j d differ inside within same = ⊎_elim
    (λ (below : i < j). absurd (differ i j d below within same))
    (λ (above : j ≤ i). ⊎_elim
    (λ (over : j < i). absurd (differ j i d over inside (sym same)))
    (λ (under : i ≤ j). let both : i ≡ j = omega arith in both)
    (cases_lt j i))
    (cases_lt i j)

-- the row at a place that has a check
pub record Titled (l : Layout) (place : ℕ) : Type 0 where
  pub flow : ℕ
  pub check : ℕ
  pub there : slice_get l.planned place ≡ Some (Selected flow check)
  pub inside : place < length l.planned

titled_as : (l : Layout) (place : ℕ) (o : Option PlannedRow) → slice_get l.planned place ≡ o → IsSome (shape_of l.checks o) → (flow : ℕ) × (check : ℕ) × (slice_get l.planned place ≡ Some (Selected flow check))
titled_as l place None is some = cc
titled_as l place (Some (Selected flow check)) is some = (flow, check, is)
titled_as l place (Some (Unselected flow)) is some = cc

pub titled : (l : Layout) (place : ℕ) → IsSome (shape_at l place) → Titled l place
unfolding shape_at
titled l place some =
    let found : (flow : ℕ) × (check : ℕ) × (slice_get l.planned place ≡ Some (Selected flow check)) = titled_as l place (slice_get l.planned place) refl some in
    record {
      flow = found.0;
      check = found.1;
      there = found.2;
      inside = ⊎_elim (λ in_. in_.1) (λ past. let no : None ≡ Some (Selected found.0 found.1) = sym past.1 ∙ found.2 in cc) (slice_get_cases l.planned place).1;
    }

pub title_is : (l : Layout) (place : ℕ) (t : Titled l place) → row_line l place ≡ codes "row " ++ (get_or l.flows t.flow [] ++ 32 ∷ get_or (check_names l.checks) t.check [])
unfolding row_line
title_is l place t = ap (title_of l) t.there

-- it names a flow and a check
pub record Names (l : Layout) (place : ℕ) (t : Titled l place) : Type 0 where
  pub flow : t.flow < length l.flows
  pub check : t.check < length (check_names l.checks)

pub names_of : (l : Layout) (place : ℕ) → IsLayout l → (t : Titled l place) → Names l place t
names_of l place is t =
    let row : get_or l.planned place (Selected t.flow t.check) ≡ Selected t.flow t.check = get_or_from_slice_get l.planned place (Selected t.flow t.check) (Selected t.flow t.check) t.there in
    let named : (t.flow < length l.flows) × (t.check < length l.checks) = subst (λ r. IsNamed (length l.flows) (length l.checks) r) row (is.named place (Selected t.flow t.check) t.inside) in
    record { flow = named.0; check = rw length-map named.1 }

-- rows that differ have lines that differ
pub rows_apart : (l : Layout) (p q : ℕ) → IsLayout l → IsSome (shape_at l p) → IsSome (shape_at l q) → row_line l p ≡ row_line l q → p ≡ q
rows_apart l p q is some other same =
    let t : Titled l p = titled l p some in
    let u : Titled l q = titled l q other in
    let n : Names l p t = names_of l p is t in
    let m : Names l q u = names_of l q is u in
    let lines : codes "row " ++ (get_or l.flows t.flow [] ++ 32 ∷ get_or (check_names l.checks) t.check [])
    ≡ codes "row " ++ (get_or l.flows u.flow [] ++ 32 ∷ get_or (check_names l.checks) u.check []) =
    sym (title_is l p t) ∙ same ∙ title_is l q u in
    let behind : get_or l.flows t.flow [] ++ 32 ∷ get_or (check_names l.checks) t.check []
    ≡ get_or l.flows u.flow [] ++ 32 ∷ get_or (check_names l.checks) u.check [] = cc in
    let parts : (get_or l.flows t.flow [] ≡ get_or l.flows u.flow []) × (get_or (check_names l.checks) t.check [] ≡ get_or (check_names l.checks) u.check []) =
    cut_once 32 (get_or l.flows t.flow []) (get_or l.flows u.flow []) _ _
    (name_lacks 32 refl _ (is.flows_named t.flow [] n.flow)) (name_lacks 32 refl _ (is.flows_named u.flow [] m.flow)) behind in
    let flow : t.flow ≡ u.flow = placed_once l.flows t.flow u.flow [] is.flows_differ n.flow m.flow parts.0 in
    let check : t.check ≡ u.check = placed_once (check_names l.checks) t.check u.check [] is.checks_differ n.check m.check parts.1 in
    let row : Selected t.flow t.check ≡ Selected u.flow u.check = cc in
    placed_once l.planned p q (Selected t.flow t.check) is.rows_differ t.inside u.inside
    (get_or_from_slice_get l.planned p (Selected t.flow t.check) (Selected t.flow t.check) t.there
    ∙ row ∙ sym (get_or_from_slice_get l.planned q (Selected u.flow u.check) (Selected t.flow t.check) u.there))

-- the first byte of a line
abbrev pub first : List ℕ → ℕ
first line = get_or line 0 0

first_both : (a b : List ℕ) → 0 < length a → first (a ++ b) ≡ first a
first_both [] b some = absurd (omega arith)
first_both (c ∷ a) b some = refl

-- a word line begins with a digit
pub first_word : (step : Step) → step.parent < 2 ^ 32 → (48 ≤ first (word_line step)) × (first (word_line step) ≤ 57)
first_word step small =
    let fits : step.parent < 2 ^ 64 = omega arith in
    let some : 0 < length (decimal step.parent) = decimal_nonempty step.parent fits in
    let digit = digit_from_value (first (decimal step.parent)) (digit_of_digits (decimal step.parent) 0 (decimal_is_IsNumeral step.parent fits).0.1 some) in
    let same : first (word_line step) ≡ first (decimal step.parent) = first_both (decimal step.parent) (32 ∷ decimal step.symbol) some in
    rw same digit

-- the line of a row begins with an r
pub first_row : (l : Layout) (place : ℕ) → IsSome (shape_at l place) → first (row_line l place) ≡ 114
first_row l place some = ap first (title_is l place (titled l place some))

pub word_once : (a b : Step) → a.parent < 2 ^ 32 → a.symbol < 2 ^ 32 → b.parent < 2 ^ 32 → b.symbol < 2 ^ 32 → word_line a ≡ word_line b → a ≡ b
word_once a b p q r s same =
    let parts : (decimal a.parent ≡ decimal b.parent) × (decimal a.symbol ≡ decimal b.symbol) =
    cut_once 32 (decimal a.parent) (decimal b.parent) (decimal a.symbol) (decimal b.symbol) (decimal_lacks 32 a.parent (lit≤ tt) p) (decimal_lacks 32 b.parent (lit≤ tt) r) same in
    let parents : a.parent ≡ b.parent = decimal_injective a.parent b.parent (omega arith) (omega arith) parts.0 in
    let symbols : a.symbol ≡ b.symbol = decimal_injective a.symbol b.symbol (omega arith) (omega arith) parts.1 in
    ap (λ k. record { parent = k; symbol = a.symbol }) parents ∙ ap (λ k. record { parent = b.parent; symbol = k }) symbols

-- what a state allows has numbers of 32 bits
pub record Fits (state : State) : Type 0 where
  pub words : state.words ≤ 2 ^ 32
  pub bound : state.bound < 2 ^ 32
  pub path_symbols : state.path_symbols < 2 ^ 32
  pub symbols : state.symbols < 2 ^ 32

pub same_item : (l : Layout) (state : State) (i j : Item) → IsLayout l → Fits state → Allowed l state i → Allowed l state j → item_line l i ≡ item_line l j → i ≡ j
same_item l state (Word a) (Word b) is fits p q same =
    let step : a ≡ b = word_once a b (omega (arith, p.0, fits.words)) (omega (arith, p.1, fits.bound)) (omega (arith, q.0, fits.words)) (omega (arith, q.1, fits.bound)) same in
    ap Word step
same_item l state (Word a) Complement is fits p q same =
    let digit : (48 ≤ first (word_line a)) × (first (word_line a) ≤ 57) = first_word a (omega (arith, p.0, fits.words)) in
    let other : first (word_line a) ≡ 99 = ap first same in absurd (omega (arith, other))
same_item l state (Word a) Images is fits p q same =
    let digit : (48 ≤ first (word_line a)) × (first (word_line a) ≤ 57) = first_word a (omega (arith, p.0, fits.words)) in
    let other : first (word_line a) ≡ 105 = ap first same in absurd (omega (arith, other))
same_item l state (Word a) (Row place) is fits p q same =
    let digit : (48 ≤ first (word_line a)) × (first (word_line a) ≤ 57) = first_word a (omega (arith, p.0, fits.words)) in
    let other : first (word_line a) ≡ 114 = ap first same ∙ first_row l place q.2 in absurd (omega (arith, other))
same_item l state Complement (Word b) is fits p q same =
    let digit : (48 ≤ first (word_line b)) × (first (word_line b) ≤ 57) = first_word b (omega (arith, q.0, fits.words)) in
    let other : 99 ≡ first (word_line b) = ap first same in absurd (omega (arith, other))
same_item l state Complement Complement is fits p q same = refl
same_item l state Complement Images is fits p q same = let other : 99 ≡ 105 = ap first same in absurd (omega (arith, other))
same_item l state Complement (Row place) is fits p q same = let other : 99 ≡ 114 = ap first same ∙ first_row l place q.2 in absurd (omega (arith, other))
same_item l state Images (Word b) is fits p q same =
    let digit : (48 ≤ first (word_line b)) × (first (word_line b) ≤ 57) = first_word b (omega (arith, q.0, fits.words)) in
    let other : 105 ≡ first (word_line b) = ap first same in absurd (omega (arith, other))
same_item l state Images Complement is fits p q same = let other : 105 ≡ 99 = ap first same in absurd (omega (arith, other))
same_item l state Images Images is fits p q same = refl
same_item l state Images (Row place) is fits p q same = let other : 105 ≡ 114 = ap first same ∙ first_row l place q.2 in absurd (omega (arith, other))
same_item l state (Row place) (Word b) is fits p q same =
    let digit : (48 ≤ first (word_line b)) × (first (word_line b) ≤ 57) = first_word b (omega (arith, q.0, fits.words)) in
    let other : 114 ≡ first (word_line b) = sym (first_row l place p.2) ∙ ap first same in absurd (omega (arith, other))
same_item l state (Row place) Complement is fits p q same = let other : 114 ≡ 99 = sym (first_row l place p.2) ∙ ap first same in absurd (omega (arith, other))
same_item l state (Row place) Images is fits p q same = let other : 114 ≡ 105 = sym (first_row l place p.2) ∙ ap first same in absurd (omega (arith, other))
same_item l state (Row place) (Row other) is fits p q same = ap Row (rows_apart l place other is p.2 q.2 same)

-- no item's line is the last line
pub never_end : (l : Layout) (state : State) (i : Item) → Fits state → Allowed l state i → item_line l i ≡ codes "end" → ⊥
never_end l state (Word a) fits p same =
    let digit : (48 ≤ first (word_line a)) × (first (word_line a) ≤ 57) = first_word a (omega (arith, p.0, fits.words)) in
    let other : first (word_line a) ≡ 101 = ap first same in omega (arith, other)
never_end l state Complement fits p same = let other : 99 ≡ 101 = ap first same in omega (arith, other)
never_end l state Images fits p same = let other : 105 ≡ 101 = ap first same in omega (arith, other)
never_end l state (Row place) fits p same = let other : 114 ≡ 101 = sym (first_row l place p.2) ∙ ap first same in omega (arith, other)

row_lacks : (l : Layout) (place : ℕ) → IsLayout l → IsSome (shape_at l place) → Lacks 10 (row_line l place)
row_lacks l place is some =
    let t : Titled l place = titled l place some in
    let n : Names l place t = names_of l place is t in
    subst (λ line. Lacks 10 line) (sym (title_is l place t))
    (lacks_both 10 (codes "row ") _ ((λ e. cc), ((λ e. cc), ((λ e. cc), ((λ e. cc), tt))))
    (lacks_both 10 (get_or l.flows t.flow []) _ (name_lacks 10 refl _ (is.flows_named t.flow [] n.flow))
    ((λ e. cc), name_lacks 10 refl _ (is.checks_named t.check [] n.check))))

word_lacks : (step : Step) → step.parent < 2 ^ 32 → step.symbol < 2 ^ 32 → Lacks 10 (word_line step)
word_lacks step p q = lacks_both 10 (decimal step.parent) (32 ∷ decimal step.symbol) (decimal_lacks 10 step.parent (lit≤ tt) p) ((λ e. cc), decimal_lacks 10 step.symbol (lit≤ tt) q)

-- no item's line holds a line feed
pub item_lacks : (l : Layout) (state : State) (i : Item) → IsLayout l → Fits state → Allowed l state i → Lacks 10 (item_line l i)
item_lacks l state (Word step) is fits p = word_lacks step (omega (arith, p.0, fits.words)) (omega (arith, p.1, fits.bound))
item_lacks l state Complement is fits p = bytes_lack is_name_byte 10 refl (codes "complement") refl
item_lacks l state Images is fits p = bytes_lack is_name_byte 10 refl (codes "images") refl
item_lacks l state (Row place) is fits p = row_lacks l place is p.2
