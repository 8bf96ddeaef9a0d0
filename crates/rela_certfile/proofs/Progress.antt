-- How far a text is read.
use Rattle.std.proofs.Common.{◌≡◌, ℕ, ◌+◌, ◌^◌, ◌<◌, ◌≤◌, List, [], ◌∷◌, ◌++◌, length, map, sym, ◌∙◌, ap, subst, append_assoc, append-nil, length-append, lit≤, arith}
use Rattle.std.proofs.lemmas.Grind.{flat_map-append}
use Rattle.std.proofs.lemmas.List.{map-append, length-map}
use Rattle.rela_certfile.specs.declared.item.Item.{Item}
use Rattle.rela_certfile.specs.declared.item.State.{State}
use Rattle.rela_certfile.specs.declared.builder.Builder.{Builder}
use Rattle.rela_certfile.specs.Layout.{Layout, IsLayout}
use Rattle.rela_certfile.specs.Text.{ended, header}
use Rattle.rela_certfile.specs.Items.{item_line, Allowed, after, after_all, start, Runs, Gathers}
use Rattle.rela_certfile.proofs.Closing.{runs_on, after_both}
use Rattle.rela_certfile.proofs.Reading.{Small, small_all, small_start}

-- the items that were read, and what they made
pub record Read (l : Layout) (text rest : List ℕ) (line : ℕ) (state : State) (builder : Builder) (items : List Item) : Type 0 where
  pub cut : text ≡ ended (header ∷ map (item_line l) items) ++ rest
  pub runs : Runs l start items
  pub reached : state ≡ after_all l start items
  pub counted : line ≡ length items + 2
  pub gathered : Gathers items builder

-- each line takes a byte at least
pub ended_long : (lines : List (List ℕ)) → length lines ≤ length (ended lines)
ended_long [] = lit≤ tt
ended_long (line ∷ lines) = omega (arith, ended_long lines, length-append line (10 ∷ []), length-append (line ++ 10 ∷ []) (ended lines))

-- the text with one item more
pub cut_more : (l : Layout) (text rest next others : List ℕ) (items : List Item) (item : Item) → text ≡ ended (header ∷ map (item_line l) items) ++ rest → rest ≡ next ++ 10 ∷ others → next ≡ item_line l item
    → text ≡ ended (header ∷ map (item_line l) (items ++ item ∷ [])) ++ others
cut_more l text rest next others items item so_far cut is =
    let line_end : rest ≡ (item_line l item ++ 10 ∷ []) ++ others = cut ∙ ap (λ n. n ++ 10 ∷ others) is ∙ sym (append_assoc (item_line l item) (10 ∷ []) others) in
    so_far
    ∙ ap (λ r. ended (header ∷ map (item_line l) items) ++ r) line_end
    ∙ sym (append_assoc (ended (header ∷ map (item_line l) items)) (item_line l item ++ 10 ∷ []) others)
    ∙ ap (λ t. (ended (header ∷ map (item_line l) items) ++ t) ++ others) (sym (append-nil (item_line l item ++ 10 ∷ [])))
    ∙ ap (λ t. t ++ others) (sym (flat_map-append (λ line. line ++ 10 ∷ []) (header ∷ map (item_line l) items) (item_line l item ∷ [])))
    ∙ ap (λ lines. ended (header ∷ lines) ++ others) (sym (map-append (item_line l) items (item ∷ [])))

pub runs_more : (l : Layout) (text rest : List ℕ) (line : ℕ) (state : State) (builder : Builder) (items : List Item) (item : Item) → Read l text rest line state builder items → Allowed l state item → Runs l start (items ++ item ∷ [])
runs_more l text rest line state builder items item read allowed =
    runs_on l start items (item ∷ []) read.runs (subst (λ s. Allowed l s item) read.reached allowed, tt)

-- one item more
pub read_more : (l : Layout) (text rest next others : List ℕ) (line : ℕ) (state : State) (old new : Builder) (items : List Item) (item : Item) → Read l text rest line state old items → rest ≡ next ++ 10 ∷ others → next ≡ item_line l item → Allowed l state item → ((is : List Item) → Gathers is old → Gathers (is ++ item ∷ []) new) → Read l text others (line + 1) (after l state item) new (items ++ item ∷ [])
read_more l text rest next others line state old new items item read cut is allowed gathers =
    record {
      cut = cut_more l text rest next others items item read.cut cut is;
      runs = runs_more l text rest line state old items item read allowed;
      reached = ap (λ s. after l s item) read.reached ∙ sym (after_both l start items (item ∷ []));
      counted = omega (arith, read.counted, length-append items (item ∷ []));
      gathered = gathers items read.gathered;
    }

-- there are fewer items than bytes: the first line alone takes nineteen
pub read_few : (l : Layout) (text rest : List ℕ) (line : ℕ) (state : State) (builder : Builder) (items : List Item) → Read l text rest line state builder items → length items + 19 + length rest ≤ length text
read_few l text rest line state builder items read =
    let count : length (map (item_line l) items) ≤ length (ended (map (item_line l) items)) = ended_long (map (item_line l) items) in
    let first : length (ended (header ∷ map (item_line l) items)) ≡ 19 + length (ended (map (item_line l) items)) = length-append (header ++ 10 ∷ []) (ended (map (item_line l) items)) in
    let both : length text ≡ length (ended (header ∷ map (item_line l) items)) + length rest = ap length read.cut ∙ length-append (ended (header ∷ map (item_line l) items)) rest in
    omega (arith, count, first, both, length-map items (item_line l))

-- and so many words at most
pub read_words : (l : Layout) (text rest : List ℕ) (line : ℕ) (state : State) (builder : Builder) (items : List Item) → IsLayout l → Read l text rest line state builder items → length text < 2 ^ 32 → state.words < 2 ^ 32
read_words l text rest line state builder items is read short =
    let small : Small (1 + length items) (after_all l start items) = small_all l 1 start items is small_start in
    let words : state.words ≡ (after_all l start items).words = ap (λ s. s.words) read.reached in
    omega (arith, words, small.words, read_few l text rest line state builder items read)
