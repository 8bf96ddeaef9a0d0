-- A text is that of one list of rows.
use Rattle.std.proofs.Common.{◌≡◌, ℕ, ◌+◌, ◌^◌, ◌<◌, ◌≤◌, suc, List, [], ◌∷◌, ◌++◌, length, map, refl, sym, ◌∙◌, ap, subst, append_assoc, length-append, arith}
use Rattle.std.proofs.lemmas.List.{length-map}
use Rattle.rela_certfile.specs.declared.rows.ListedRow.{ListedRow}
use Rattle.rela_certfile.specs.declared.item.Item.{Item}
use Rattle.rela_certfile.specs.declared.item.State.{State}
use Rattle.rela_certfile.specs.Cut.{Lacks}
use Rattle.rela_certfile.specs.Layout.{Layout, IsLayout}
use Rattle.rela_certfile.specs.Listed.{AreListed}
use Rattle.rela_certfile.specs.Text.{ended, header, last_line, text_of}
use Rattle.rela_certfile.specs.Items.{after, item_line, start, Runs}
use Rattle.rela_certfile.proofs.Breaking.{end_lacks}
use Rattle.rela_certfile.proofs.Cuts.{cut_once}
use Rattle.rela_certfile.proofs.ItemLines.{Fits, item_lacks, never_end, same_item}
use Rattle.rela_certfile.proofs.Progress.{ended_long}
use Rattle.rela_certfile.proofs.Reading.{Small, closes_of, lines_are, small_after, small_fits, small_start}
use Rattle.rela_certfile.proofs.Rests.{rest_of}
use Rattle.rela_certfile.proofs.Running.{items_of, rows_again}

-- the first lines are the same, and so are the others
pub line_once : (a b x y : List ℕ) → Lacks 10 a → Lacks 10 b → (a ++ 10 ∷ []) ++ x ≡ (b ++ 10 ∷ []) ++ y → (a ≡ b) × (x ≡ y)
line_once a b x y free other same = cut_once 10 a b x y free other (sym (append_assoc a (10 ∷ []) x) ∙ same ∙ append_assoc b (10 ∷ []) y)

-- items whose lines make one text are the same
items_once : (l : Layout) (n : ℕ) (state : State) (a b : List Item) → IsLayout l → n + length a ≤ 2 ^ 32 → n + length b ≤ 2 ^ 32 → Small n state → Runs l state a → Runs l state b → ended (map (item_line l) a ++ last_line ∷ []) ≡ ended (map (item_line l) b ++ last_line ∷ []) → a ≡ b
items_once l n state [] [] is few also small runs other same = refl
items_once l n state [] (j ∷ b) is few also small runs other same =
    let fits : Fits state = small_fits n state (omega arith) small in
    let line : last_line ≡ item_line l j = (line_once last_line (item_line l j) (ended []) (ended (map (item_line l) b ++ last_line ∷ [])) end_lacks (item_lacks l state j is fits other.0) same).0 in
    absurd (never_end l state j fits other.0 (sym line))
items_once l n state (i ∷ a) [] is few also small runs other same =
    let fits : Fits state = small_fits n state (omega arith) small in
    let line : item_line l i ≡ last_line = (line_once (item_line l i) last_line (ended (map (item_line l) a ++ last_line ∷ [])) (ended []) (item_lacks l state i is fits runs.0) end_lacks same).0 in
    absurd (never_end l state i fits runs.0 line)
items_once l n state (i ∷ a) (j ∷ b) is few also small runs other same =
    let fits : Fits state = small_fits n state (omega arith) small in
    let parts : (item_line l i ≡ item_line l j) × (ended (map (item_line l) a ++ last_line ∷ []) ≡ ended (map (item_line l) b ++ last_line ∷ [])) =
    line_once (item_line l i) (item_line l j) (ended (map (item_line l) a ++ last_line ∷ [])) (ended (map (item_line l) b ++ last_line ∷ [])) (item_lacks l state i is fits runs.0) (item_lacks l state j is fits other.0) same in
    let item : i ≡ j = same_item l state i j is fits runs.0 other.0 parts.0 in
    let goes : Runs l (after l state i) b = subst (λ k. Runs l (after l state k) b) (sym item) other.1 in
    let rest : a ≡ b = items_once l (suc n) (after l state i) a b is (omega arith) (omega arith) (small_after l n state i is small) runs.1 goes parts.1 in
    ap (λ k. k ∷ a) item ∙ ap (λ more. j ∷ more) rest

-- a text has a line for each item
few_items : (l : Layout) (rows : List ListedRow) → length (text_of l rows) < 2 ^ 32 → 1 + length (items_of rows) ≤ 2 ^ 32
few_items l rows short =
    omega (
      arith,
      short,
      ap (λ lines. length (ended lines)) (lines_are l rows),
      ended_long (header ∷ (map (item_line l) (items_of rows) ++ last_line ∷ [])),
      length-append (map (item_line l) (items_of rows)) (last_line ∷ []),
      length-map (items_of rows) (item_line l),
    )

behind_first : (a x y : List ℕ) → a ++ x ≡ a ++ y → x ≡ y
behind_first [] x y same = same
behind_first (c ∷ a) x y same = behind_first a x y (let tails : a ++ x ≡ a ++ y = cc in tails)

pub rows_once : (l : Layout) (a b : List ListedRow) → IsLayout l → AreListed l a → AreListed l b → length (text_of l a) < 2 ^ 32 → text_of l a ≡ text_of l b → a ≡ b
rows_once l a b is listed other short same =
    let texts : (header ++ 10 ∷ []) ++ ended (map (item_line l) (items_of a) ++ last_line ∷ []) ≡ (header ++ 10 ∷ []) ++ ended (map (item_line l) (items_of b) ++ last_line ∷ []) =
    ap ended (sym (lines_are l a)) ∙ same ∙ ap ended (lines_are l b) in
    let items : items_of a ≡ items_of b = items_once l 1 start (items_of a) (items_of b) is (few_items l a short) (few_items l b (omega (arith, ap length same, short))) small_start (closes_of l a listed).runs (closes_of l b other).runs
    (behind_first (header ++ 10 ∷ []) (ended (map (item_line l) (items_of a) ++ last_line ∷ [])) (ended (map (item_line l) (items_of b) ++ last_line ∷ [])) texts) in
    ap (λ r. r.rows) (sym (rows_again a) ∙ ap rest_of items ∙ rows_again b)
