-- Where a text that is read so far breaks.
use Rattle.std.proofs.Common.{◌≡◌, ◌≢◌, ℕ, ◌+◌, ◌^◌, ◌<◌, ◌≤◌, ⊎_elim, List, [], ◌∷◌, ◌++◌, length, map, codes, refl, sym, ◌∙◌, ap, subst, append_assoc, append-nil, length-append, arith, ◌↔◌, Some, None}
use Rattle.std.proofs.lemmas.Bool.{cases_lt}
use Rattle.std.proofs.lemmas.Grind.{flat_map-append}
use Rattle.std.proofs.lemmas.List.{length-map, map-append}
use Rattle.rela_names.specs.Name.{is_name_byte}
use Rattle.rela_certfile.specs.declared.item.Item.{Item}
use Rattle.rela_certfile.specs.declared.item.State.{State}
use Rattle.rela_certfile.specs.declared.builder.Builder.{Builder}
use Rattle.rela_certfile.specs.Breaks.{BreaksAt, Begins, GoesOn}
use Rattle.rela_certfile.specs.Cut.{IsCutAt, Lacks}
use Rattle.rela_certfile.specs.Layout.{Layout, IsLayout}
use Rattle.rela_certfile.specs.Text.{ended, header, last_line, text_of}
use Rattle.rela_certfile.specs.Items.{item_line, Allowed, after_all, start, Runs}
use Rattle.rela_certfile.proofs.Closing.{Closes}
use Rattle.rela_certfile.proofs.Cuts.{cut_once, never_cut}
use Rattle.rela_certfile.proofs.ItemLines.{item_lacks, never_end, bytes_lack}
use Rattle.rela_certfile.proofs.Progress.{Read, cut_more, read_few, runs_more}
use Rattle.rela_certfile.proofs.Reading.{small_all, small_fits, small_start, MayFollow, begins_next, begins_nothing, begins_so_far, begins_whole, nothing_follows, not_whole, first_line, lines_are, whole_lines}
use Rattle.rela_certfile.proofs.Rests.{rest_of}
use Rattle.rela_certfile.proofs.Running.{items_of}

pub end_lacks : Lacks 10 last_line
end_lacks = bytes_lack is_name_byte 10 refl (codes "end") refl

pub breaks_first : (l : Layout) (text : List ℕ) → ((rest : List ℕ) → text ≢ (header ++ 10 ∷ []) ++ rest) → BreaksAt l text 1
breaks_first l text other = record {
  before = [];
  after = text;
  numbered = refl;
  cut = refl;
  begins = begins_nothing l;
  breaks = λ next rest same begins.
      other rest (same ∙ ap (λ n. (n ++ 10 ∷ []) ++ rest) (first_line l next begins));
  unfinished = λ none rows listed same. let some : header ∷ (map (item_line l) (items_of rows) ++ last_line ∷ []) ≡ [] = sym (lines_are l rows) ∙ same in cc;
}

-- what may follow holds no line feed
follows_lacks : (l : Layout) (items : List Item) (next : List ℕ) → IsLayout l → 1 + length items ≤ 2 ^ 32 → MayFollow l items next → Lacks 10 next
follows_lacks l items next is few follows = ⊎_elim
    (λ (ends : (next ≡ last_line) × ((after_all l start items).heads ≡ 0)). subst (λ n. Lacks 10 n) (sym ends.0) end_lacks)
    (λ (goes : (item : Item) × (next ≡ item_line l item) × Allowed l (after_all l start items) item).
    subst (λ n. Lacks 10 n) (sym goes.1)
    (item_lacks l (after_all l start items) goes.0 is (small_fits (1 + length items) (after_all l start items) few (small_all l 1 start items is small_start)) goes.2))
    follows

before_of : Layout → List Item → List (List ℕ)
before_of l items = header ∷ map (item_line l) items

pub breaks_next : (l : Layout) (text rest : List ℕ) (line : ℕ) (state : State) (builder : Builder) (items : List Item) → IsLayout l → length text < 2 ^ 32 → Read l text rest line state builder items → ((next more : List ℕ) → rest ≡ next ++ 10 ∷ more → Lacks 10 next → MayFollow l items next → ⊥) → BreaksAt l text line
breaks_next l text rest line state builder items is short read refused =
    let few : 1 + length items ≤ 2 ^ 32 = omega (arith, read_few l text rest line state builder items read) in
    record {
      before = header ∷ map (item_line l) items;
      after = rest;
      numbered = omega (arith, read.counted, length-map items (item_line l));
      cut = read.cut;
      begins = begins_so_far l items read.runs;
      breaks = λ next more same begins.
          let follows : MayFollow l items next = begins_next l items next is few read.runs begins in
          refused next more (same ∙ append_assoc next (10 ∷ []) more) (follows_lacks l items next is few follows) follows;
      unfinished = λ none rows listed same. not_whole l items rows is few read.runs listed same;
    }

-- no whole line is left
pub breaks_missing : (l : Layout) (text rest : List ℕ) (line : ℕ) (state : State) (builder : Builder) (items : List Item) → IsLayout l → length text < 2 ^ 32 → Read l text rest line state builder items → Lacks 10 rest → BreaksAt l text line
breaks_missing l text rest line state builder items is short read lacks =
    breaks_next l text rest line state builder items is short read (λ next more same free follows. never_cut 10 rest next more lacks same)

-- the next line may not follow
pub breaks_line : (l : Layout) (text rest next others : List ℕ) (line : ℕ) (state : State) (builder : Builder) (items : List Item) → IsLayout l → length text < 2 ^ 32 → Read l text rest line state builder items → IsCutAt 10 rest next others → (MayFollow l items next → ⊥) → BreaksAt l text line
breaks_line l text rest next others line state builder items is short read cut refused =
    breaks_next l text rest line state builder items is short read (λ other more same free follows.
    let alike : other ≡ next = (cut_once 10 other next more others free cut.first (sym same ∙ cut.joined)).0 in
    refused (subst (λ n. MayFollow l items n) alike follows))

-- another line than the last one, which says nothing that is allowed
pub refused_item : (l : Layout) (items : List Item) (state : State) (next : List ℕ) → state ≡ after_all l start items → next ≢ last_line → ((item : Item) → (next ≡ item_line l item) × Allowed l state item → ⊥) → MayFollow l items next → ⊥
refused_item l items state next is other none follows = ⊎_elim
    (λ (ends : (next ≡ last_line) × ((after_all l start items).heads ≡ 0)). other ends.0)
    (λ (goes : (item : Item) × (next ≡ item_line l item) × Allowed l (after_all l start items) item).
    none goes.0 (goes.1, subst (λ s. Allowed l s goes.0) (sym is) goes.2))
    follows

-- the last line, where blocks are missing
pub refused_end : (l : Layout) (text rest : List ℕ) (line : ℕ) (builder : Builder) (items : List Item) (state : State) (next : List ℕ) → IsLayout l → length text < 2 ^ 32 → Read l text rest line state builder items → next ≡ last_line → 0 < state.heads → MayFollow l items next → ⊥
refused_end l text rest line builder items state next is short read ends some follows =
    let few : 1 + length items ≤ 2 ^ 32 = omega (arith, read_few l text rest line state builder items read) in
    let heads : state.heads ≡ (after_all l start items).heads = ap (λ s. s.heads) read.reached in
    ⊎_elim
    (λ (whole : (next ≡ last_line) × ((after_all l start items).heads ≡ 0)). let none : (after_all l start items).heads ≡ 0 = whole.1 in omega arith)
    (λ (goes : (item : Item) × (next ≡ item_line l item) × Allowed l (after_all l start items) item).
    never_end l (after_all l start items) goes.0 (small_fits (1 + length items) (after_all l start items) few (small_all l 1 start items is small_start)) goes.2 (sym goes.1 ∙ ends))
    follows

-- the text with its last line
whole_text : (l : Layout) (items : List Item) (rest next others text : List ℕ) → text ≡ ended (header ∷ map (item_line l) items) ++ rest → rest ≡ next ++ 10 ∷ others → next ≡ last_line → text ≡ ended (header ∷ (map (item_line l) items ++ last_line ∷ [])) ++ others
whole_text l items rest next others text cut joined ends =
    cut ∙ ap (λ r. ended (header ∷ map (item_line l) items) ++ r) (joined ∙ ap (λ n. n ++ 10 ∷ others) ends)
    ∙ sym (append_assoc (ended (header ∷ map (item_line l) items)) (last_line ++ 10 ∷ []) others)
    ∙ ap (λ t. t ++ others) (sym (flat_map-append (λ line. line ++ 10 ∷ []) (header ∷ map (item_line l) items) (last_line ∷ [])))

closes : (l : Layout) (items : List Item) (state : State) → Runs l start items → state ≡ after_all l start items → state.heads ≡ 0 → Closes l start items
closes l items state runs is none = record { runs = runs; whole = ap (λ s. s.heads) (sym is) ∙ none }

pub read_closes : (l : Layout) (text rest : List ℕ) (line : ℕ) (state : State) (builder : Builder) (items : List Item) → Read l text rest line state builder items → state.heads ≤ 0 → Closes l start items
read_closes l text rest line state builder items read none = closes l items state read.runs read.reached (omega arith)

-- something follows the last line
pub breaks_after : (l : Layout) (text rest next others : List ℕ) (line : ℕ) (state : State) (builder : Builder) (items : List Item) → IsLayout l → length text < 2 ^ 32 → Read l text rest line state builder items → IsCutAt 10 rest next others → next ≡ last_line → state.heads ≤ 0 → 0 < length others → BreaksAt l text (line + 1)
breaks_after l text rest next others line state builder items is short read cut ends none some =
    let few : 1 + length items ≤ 2 ^ 32 = omega (arith, read_few l text rest line state builder items read) in
    record {
      before = header ∷ (map (item_line l) items ++ last_line ∷ []);
      after = others;
      numbered = omega (arith, read.counted, length-map items (item_line l), length-append (map (item_line l) items) (last_line ∷ []));
      cut = whole_text l items rest next others text read.cut cut.joined ends;
      begins = begins_whole l items (read_closes l text rest line state builder items read none);
      breaks = λ other more same begins. nothing_follows l items other is few read.runs begins;
      unfinished = λ empty rows listed same. omega (arith, some, ap length empty);
    }

some_left : (text : List ℕ) → text ≢ [] → 0 < length text
some_left [] some = absurd (some refl)
some_left (c ∷ text) some = omega arith

-- the last line, where it may not stand
pub breaks_by_end : (l : Layout) (text rest next others : List ℕ) (line broken : ℕ) (state : State) (builder : Builder) (items : List Item) → IsLayout l → length text < 2 ^ 32 → Read l text rest line state builder items → IsCutAt 10 rest next others → next ≡ last_line → (Some broken ≡ None) ↔ ((state.heads ≡ 0) × (others ≡ [])) → (0 < state.heads → Some broken ≡ Some line) → (state.heads ≡ 0 → others ≢ [] → Some broken ≡ Some (line + 1)) → BreaksAt l text broken
breaks_by_end l text rest next others line broken state builder items is short read cut ends whole missing more = ⊎_elim
    (λ (left : 0 < state.heads).
    let told : Some broken ≡ Some line = missing left in
    let same : line ≡ broken = cc in
    subst (λ n. BreaksAt l text n) same
    (breaks_line l text rest next others line state builder items is short read cut
    (refused_end l text rest line builder items state next is short read ends left)))
    (λ (none : state.heads ≤ 0).
    let zero_heads : state.heads ≡ 0 = omega arith in
    let some : others ≢ [] = λ empty. let never : Some broken ≡ None = whole.1 (zero_heads, empty) in cc in
    let told : Some broken ≡ Some (line + 1) = more zero_heads some in
    let same : line + 1 ≡ broken = cc in
    subst (λ n. BreaksAt l text n) same
    (breaks_after l text rest next others line state builder items is short read cut ends none (some_left others some)))
    (cases_lt 0 state.heads)

-- the whole text
pub text_whole : (l : Layout) (text rest next others : List ℕ) (line : ℕ) (state : State) (builder : Builder) (items : List Item) → Read l text rest line state builder items → IsCutAt 10 rest next others → next ≡ last_line → state.heads ≤ 0 → others ≡ [] → text ≡ text_of l (rest_of items).rows
text_whole l text rest next others line state builder items read cut ends none empty =
    whole_text l items rest next others text read.cut cut.joined ends
    ∙ ap (λ o. ended (header ∷ (map (item_line l) items ++ last_line ∷ [])) ++ o) empty
    ∙ append-nil (ended (header ∷ (map (item_line l) items ++ last_line ∷ [])))
    ∙ ap ended (sym (whole_lines l items (read_closes l text rest line state builder items read none)))

-- the next line may follow
pub goes_on : (l : Layout) (text rest next others : List ℕ) (line : ℕ) (state : State) (builder : Builder) (items : List Item) (item : Item) → Read l text rest line state builder items → rest ≡ next ++ 10 ∷ others → next ≡ item_line l item → Allowed l state item → GoesOn l text
goes_on l text rest next others line state builder items item read cut is allowed =
    let one : List Item = item ∷ [] in
    let lines : header ∷ map (item_line l) (items ++ one) ≡ (header ∷ map (item_line l) items) ++ item_line l item ∷ [] =
    ap (λ (ls : List (List ℕ)). header ∷ ls) (map-append (item_line l) items one) in
    record {
      before = header ∷ map (item_line l) items;
      next = item_line l item;
      after = others;
      cut = cut_more l text rest next others items item read.cut cut is ∙ ap (λ (ls : List (List ℕ)). ended ls ++ others) lines;
      some = λ none. cc;
      begins = subst (λ (ls : List (List ℕ)). Begins l ls) lines (begins_so_far l (items ++ one) (runs_more l text rest line state builder items item read allowed));
    }
