-- What is gathered, and how it lies.
use Rattle.std.proofs.Common.{◌≡◌, ℕ, ◌+◌, ◌^◌, ◌<◌, Option, None, Some, IsSome, List, [], ◌∷◌, ◌++◌, length, map, refl, sym, ◌∙◌, ap, append-nil, arith}
use Rattle.rela_certfile.specs.declared.rows.Step.{Step}
use Rattle.rela_certfile.specs.declared.item.Item.{Item}
use Rattle.rela_certfile.specs.declared.item.Item.TheVariants.{Word, Complement, Images, Row}
use Rattle.rela_certfile.specs.declared.item.State.{State}
use Rattle.rela_certfile.specs.declared.builder.Builder.{Builder}
use Rattle.rela_certfile.specs.Blocks.{blocks_of, row_of}
use Rattle.rela_certfile.specs.Held.{all_blocks, Holds}
use Rattle.rela_certfile.specs.Items.{after, after_all, with_row, start, Runs, Gathers, places_in, firsts_in, starts_in, steps_in}
use Rattle.rela_certfile.specs.Layout.{Layout, Shape, shape_at}
use Rattle.rela_certfile.specs.Parts.{joined, starts_of}
use Rattle.rela_certfile.proofs.Closing.{Closes}
use Rattle.rela_certfile.proofs.Reading.{no_blocks}
use Rattle.rela_certfile.proofs.Rests.{Rest, Told, told, rest_of, no_steps, blocks_split}

steps_both : (a b : List Item) → steps_in (a ++ b) ≡ steps_in a ++ steps_in b
steps_both [] b = refl
steps_both (Word step ∷ a) b = ap (λ more. step ∷ more) (steps_both a b)
steps_both (Complement ∷ a) b = steps_both a b
steps_both (Images ∷ a) b = steps_both a b
steps_both (Row place ∷ a) b = steps_both a b

starts_both : (n : ℕ) (a b : List Item) → starts_in n (a ++ b) ≡ starts_in n a ++ starts_in (n + length (steps_in a)) b
starts_both n [] b = ap (λ k. starts_in k b) (let same : n ≡ n + 0 = omega arith in same)
starts_both n (Word step ∷ a) b = starts_both (n + 1) a b ∙ ap (λ k. starts_in (n + 1) a ++ starts_in k b) (let same : n + 1 + length (steps_in a) ≡ n + length (step ∷ steps_in a) = omega arith in same)
starts_both n (Complement ∷ a) b = ap (λ more. n ∷ more) (starts_both n a b)
starts_both n (Images ∷ a) b = ap (λ more. n ∷ more) (starts_both n a b)
starts_both n (Row place ∷ a) b = starts_both n a b

places_both : (a b : List Item) → places_in (a ++ b) ≡ places_in a ++ places_in b
places_both [] b = refl
places_both (Word step ∷ a) b = places_both a b
places_both (Complement ∷ a) b = places_both a b
places_both (Images ∷ a) b = places_both a b
places_both (Row place ∷ a) b = ap (λ more. place ∷ more) (places_both a b)

firsts_both : (n s : ℕ) (a b : List Item) → firsts_in n (a ++ b) ≡ firsts_in n a ++ firsts_in (n + length (starts_in s a)) b
firsts_both n s [] b = ap (λ k. firsts_in k b) (let same : n ≡ n + 0 = omega arith in same)
firsts_both n s (Word step ∷ a) b = firsts_both n (s + 1) a b
firsts_both n s (Complement ∷ a) b = firsts_both (n + 1) s a b ∙ ap (λ k. firsts_in (n + 1) a ++ firsts_in k b) (let same : n + 1 + length (starts_in s a) ≡ n + length (s ∷ starts_in s a) = omega arith in same)
firsts_both n s (Images ∷ a) b = firsts_both (n + 1) s a b ∙ ap (λ k. firsts_in (n + 1) a ++ firsts_in k b) (let same : n + 1 + length (starts_in s a) ≡ n + length (s ∷ starts_in s a) = omega arith in same)
firsts_both n s (Row place ∷ a) b = ap (λ more. n ∷ more) (firsts_both n s a b)

pub gathers_word : (items : List Item) (old new : Builder) (step : Step) → Gathers items old → new.places.items ≡ old.places.items → new.firsts.items ≡ old.firsts.items → new.starts.items ≡ old.starts.items → new.steps.items ≡ old.steps.items ++ step ∷ [] → Gathers (items ++ Word step ∷ []) new
gathers_word items old new step g places firsts starts steps = record {
  places = places ∙ g.places ∙ sym (append-nil (places_in items)) ∙ sym (places_both items (Word step ∷ []));
  firsts = firsts ∙ g.firsts ∙ sym (append-nil (firsts_in 0 items)) ∙ sym (firsts_both 0 0 items (Word step ∷ []));
  starts = starts ∙ g.starts ∙ sym (append-nil (starts_in 0 items)) ∙ sym (starts_both 0 items (Word step ∷ []));
  steps = steps ∙ ap (λ s. s ++ step ∷ []) g.steps ∙ sym (steps_both items (Word step ∷ []));
}

pub gathers_block : (items : List Item) (old new : Builder) (n : ℕ) → Gathers items old → n ≡ length old.steps.items → new.places.items ≡ old.places.items → new.firsts.items ≡ old.firsts.items → new.starts.items ≡ old.starts.items ++ n ∷ [] → new.steps.items ≡ old.steps.items → Gathers (items ++ Complement ∷ []) new × Gathers (items ++ Images ∷ []) new
gathers_block items old new n g count places firsts starts steps =
    let begun : new.starts.items ≡ starts_in 0 items ++ (0 + length (steps_in items)) ∷ [] =
    starts ∙ ap (λ s. s ++ n ∷ []) g.starts ∙ ap (λ k. starts_in 0 items ++ k ∷ []) (count ∙ ap length g.steps ∙ (let same : length (steps_in items) ≡ 0 + length (steps_in items) = omega arith in same)) in
    let plain : new.places.items ≡ places_in items ++ [] = places ∙ g.places ∙ sym (append-nil (places_in items)) in
    let kept : new.firsts.items ≡ firsts_in 0 items ++ [] = firsts ∙ g.firsts ∙ sym (append-nil (firsts_in 0 items)) in
    let still : new.steps.items ≡ steps_in items ++ [] = steps ∙ g.steps ∙ sym (append-nil (steps_in items)) in (
      record { places = plain ∙ sym (places_both items (Complement ∷ [])); firsts = kept ∙ sym (firsts_both 0 0 items (Complement ∷ [])); starts = begun ∙ sym (starts_both 0 items (Complement ∷ [])); steps = still ∙ sym (steps_both items (Complement ∷ [])) },
      record { places = plain ∙ sym (places_both items (Images ∷ [])); firsts = kept ∙ sym (firsts_both 0 0 items (Images ∷ [])); starts = begun ∙ sym (starts_both 0 items (Images ∷ [])); steps = still ∙ sym (steps_both items (Images ∷ [])) },
    )

pub gathers_row : (items : List Item) (old new : Builder) (place n : ℕ) → Gathers items old → n ≡ length old.starts.items → new.places.items ≡ old.places.items ++ place ∷ [] → new.firsts.items ≡ old.firsts.items ++ n ∷ [] → new.starts.items ≡ old.starts.items → new.steps.items ≡ old.steps.items → Gathers (items ++ Row place ∷ []) new
gathers_row items old new place n g count places firsts starts steps = record {
  places = places ∙ ap (λ r. r ++ place ∷ []) g.places ∙ sym (places_both items (Row place ∷ []));
  firsts = firsts ∙ ap (λ r. r ++ n ∷ []) g.firsts
      ∙ ap (λ k. firsts_in 0 items ++ k ∷ []) (count ∙ ap length g.starts ∙ (let same : length (starts_in 0 items) ≡ 0 + length (starts_in 0 items) = omega arith in same))
      ∙ sym (firsts_both 0 0 items (Row place ∷ []));
  starts = starts ∙ g.starts ∙ sym (append-nil (starts_in 0 items)) ∙ sym (starts_both 0 items (Row place ∷ []));
  steps = steps ∙ g.steps ∙ sym (append-nil (steps_in items)) ∙ sym (steps_both items (Row place ∷ []));
}

-- no word stands before the first block of a row, and a row has blocks
abbrev pub Regular : List Item → Type 0
Regular [] = Unit {0}
Regular (Word step ∷ items) = Regular items
Regular (Complement ∷ items) = Regular items
Regular (Images ∷ items) = Regular items
Regular (Row place ∷ items) = ((rest_of items).steps ≡ []) × (blocks_of (row_of place (rest_of items).blocks) ≡ (rest_of items).blocks) × Regular items

row_regular : (l : Layout) (state : State) (place : ℕ) (items : List Item) (r : Rest) (o : Option Shape) → IsSome o → Told l (with_row state place o) items r → (r.steps ≡ []) × (blocks_of (row_of place r.blocks) ≡ r.blocks)
row_regular l state place items r None some told = cc
row_regular l state place items r (Some shape) some told = (no_steps state.words r.steps told.steps, blocks_split shape.path_symbols shape.symbols shape.complements r.blocks told.blocks)

pub regular : (l : Layout) (state : State) (items : List Item) → Runs l state items → (after_all l state items).heads ≡ 0 → Regular items
regular l state [] runs whole = tt
regular l state (Word step ∷ items) runs whole = regular l (after l state (Word step)) items runs.1 whole
regular l state (Complement ∷ items) runs whole = regular l (after l state Complement) items runs.1 whole
regular l state (Images ∷ items) runs whole = regular l (after l state Images) items runs.1 whole
regular l state (Row place ∷ items) runs whole =
    let facts : ((rest_of items).steps ≡ []) × (blocks_of (row_of place (rest_of items).blocks) ≡ (rest_of items).blocks) =
    row_regular l state place items (rest_of items) (shape_at l place) runs.0.2 (told l (after l state (Row place)) items runs.1 whole) in
    (facts.0, facts.1, regular l (after l state (Row place)) items runs.1 whole)

-- all blocks that are still to begin
abbrev pub further : Rest → List (List Step)
further r = r.blocks ++ all_blocks r.rows

row_further : (place : ℕ) (r : Rest) → blocks_of (row_of place r.blocks) ≡ r.blocks → all_blocks (row_of place r.blocks ∷ r.rows) ≡ further r
row_further place r same = ap (λ bs. bs ++ all_blocks r.rows) same

steps_lie : (items : List Item) → Regular items → steps_in items ≡ (rest_of items).steps ++ joined (further (rest_of items))
steps_lie [] reg = refl
steps_lie (Word step ∷ items) reg = ap (λ more. step ∷ more) (steps_lie items reg)
steps_lie (Complement ∷ items) reg = steps_lie items reg
steps_lie (Images ∷ items) reg = steps_lie items reg
steps_lie (Row place ∷ items) reg =
    steps_lie items reg.2 ∙ ap (λ s. s ++ joined (further (rest_of items))) reg.0
    ∙ ap joined (sym (row_further place (rest_of items) reg.1))

starts_lie : (n : ℕ) (items : List Item) → Regular items → starts_in n items ≡ starts_of (n + length (rest_of items).steps) (further (rest_of items))
starts_lie n [] reg = refl
starts_lie n (Word step ∷ items) reg = starts_lie (n + 1) items reg ∙ ap (λ k. starts_of k (further (rest_of items))) (let same : n + 1 + length (rest_of items).steps ≡ n + length (step ∷ (rest_of items).steps) = omega arith in same)
starts_lie n (Complement ∷ items) reg =
    ap (λ more. n ∷ more) (starts_lie n items reg)
    ∙ ap (λ k. k ∷ starts_of (k + length (rest_of items).steps) (further (rest_of items))) (let same : n ≡ n + 0 = omega arith in same)
starts_lie n (Images ∷ items) reg =
    ap (λ more. n ∷ more) (starts_lie n items reg)
    ∙ ap (λ k. k ∷ starts_of (k + length (rest_of items).steps) (further (rest_of items))) (let same : n ≡ n + 0 = omega arith in same)
starts_lie n (Row place ∷ items) reg =
    starts_lie n items reg.2 ∙ ap (λ s. starts_of (n + length s) (further (rest_of items))) reg.0
    ∙ ap (λ bs. starts_of (n + 0) bs) (sym (row_further place (rest_of items) reg.1))

places_lie : (items : List Item) → places_in items ≡ map (λ row. row.place) (rest_of items).rows
places_lie [] = refl
places_lie (Word step ∷ items) = places_lie items
places_lie (Complement ∷ items) = places_lie items
places_lie (Images ∷ items) = places_lie items
places_lie (Row place ∷ items) = ap (λ more. place ∷ more) (places_lie items)

firsts_lie : (n : ℕ) (items : List Item) → Regular items → firsts_in n items ≡ starts_of (n + length (rest_of items).blocks) (map blocks_of (rest_of items).rows)
firsts_lie n [] reg = refl
firsts_lie n (Word step ∷ items) reg = firsts_lie n items reg
firsts_lie n (Complement ∷ items) reg = firsts_lie (n + 1) items reg ∙ ap (λ k. starts_of k (map blocks_of (rest_of items).rows)) (let same : n + 1 + length (rest_of items).blocks ≡ n + length ((rest_of items).steps ∷ (rest_of items).blocks) = omega arith in same)
firsts_lie n (Images ∷ items) reg = firsts_lie (n + 1) items reg ∙ ap (λ k. starts_of k (map blocks_of (rest_of items).rows)) (let same : n + 1 + length (rest_of items).blocks ≡ n + length ((rest_of items).steps ∷ (rest_of items).blocks) = omega arith in same)
firsts_lie n (Row place ∷ items) reg =
    ap (λ more. n ∷ more) (firsts_lie n items reg.2 ∙ ap (λ bs. starts_of (n + length bs) (map blocks_of (rest_of items).rows)) (sym reg.1))
    ∙ ap (λ k. k ∷ starts_of (k + length (blocks_of (row_of place (rest_of items).blocks))) (map blocks_of (rest_of items).rows)) (let same : n ≡ n + 0 = omega arith in same)

lengths : (m : ℕ) (items : List Item) → length (places_in items) + length (starts_in m items) + length (steps_in items) ≡ length items
lengths m [] = refl
lengths m (Word step ∷ items) = omega (arith, lengths (m + 1) items)
lengths m (Complement ∷ items) = omega (arith, lengths m items)
lengths m (Images ∷ items) = omega (arith, lengths m items)
lengths m (Row place ∷ items) = omega (arith, lengths m items)

-- a builder's items that close are held rows
pub held : (l : Layout) (items : List Item) (builder : Builder) → Closes l start items → Gathers items builder → length items + 2 < 2 ^ 32 → Holds (rest_of items).rows builder.places.items builder.firsts.items builder.starts.items builder.steps.items
held l items builder closes g few =
    let reg : Regular items = regular l start items closes.runs closes.whole in
    let t : Told l start items (rest_of items) = told l start items closes.runs closes.whole in
    let steps : (rest_of items).steps ≡ [] = no_steps 1 (rest_of items).steps t.steps in
    let blocks : (rest_of items).blocks ≡ [] = no_blocks (rest_of items).blocks t.blocks in
    let all : further (rest_of items) ≡ all_blocks (rest_of items).rows = ap (λ bs. bs ++ all_blocks (rest_of items).rows) blocks in
    record {
      placed = g.places ∙ places_lie items;
      parted = g.firsts ∙ firsts_lie 0 items reg ∙ ap (λ bs. starts_of (0 + length bs) (map blocks_of (rest_of items).rows)) blocks;
      begun = g.starts ∙ starts_lie 0 items reg ∙ ap (λ s. starts_of (0 + length s) (further (rest_of items))) steps ∙ ap (λ bs. starts_of 0 bs) all;
      stepped = g.steps ∙ steps_lie items reg ∙ ap (λ s. s ++ joined (further (rest_of items))) steps ∙ ap joined all;
      few = omega (arith, lengths 0 items, ap length g.places, ap length g.starts, ap length g.steps);
    }
