-- Arrays that are written one entry after the other.
use Rattle.std.proofs.Common.{◌≡◌, ◌∙◌, refl, sym, ap, ℕ, zero, suc, ◌+◌, ◌<◌, Bool, true, false, ltb, lt-ltb, List, [], ◌∷◌, ◌++◌, length, map, get_or, take, append_assoc, arith, decimal}
use Rattle.std.proofs.lemmas.List.{append-nil, take_more, map-append}
use Rattle.serde_json.specs.Data.{Data}
use Rattle.serde_json.specs.View.{items_of}
use Rattle.serde_json.specs.Written.{comma_if, compact_text, items_text}
use Rattle.rela_fib.specs.Graph.{Graph, edges_to, number_if}
use Rattle.rela_fib.specs.Steps.{graph_of}
use Rattle.rela_fib.specs.Text.{edge_data, list_data, number_data}
use Rattle.rela_fib.specs.Writing.{IsTextOf, array_text, commas, entries_text}
use Rattle.rela_fib.specs.declared.graph.GraphText.{GraphText}
use Rattle.rela_fib.specs.declared.step.Step.{Step}
use Rattle.rela_fib.proofs.Steps.{edges_more, numbers_more}

is_later : Bool → List (List ℕ) → Bool
is_later later [] = later
is_later later (t ∷ ts) = true

commas_push : (later : Bool) (ts : List (List ℕ)) (t : List ℕ) → commas later (ts ++ t ∷ []) ≡ commas later ts ++ (comma_if (is_later later ts) ++ t)
unfolding is_later
commas_push later [] t = ap (λ (s : List ℕ). comma_if later ++ s) (append-nil t)
commas_push later (u ∷ []) t = ap (λ (s : List ℕ). comma_if later ++ s) (ap (λ (s : List ℕ). u ++ s) (commas_push true [] t) ∙ sym (append_assoc u [] (comma_if true ++ t))) ∙ sym (append_assoc (comma_if later) (u ++ []) (comma_if true ++ t))
commas_push later (u ∷ v ∷ ts) t =
    ap (λ (s : List ℕ). comma_if later ++ (u ++ s)) (commas_push true (v ∷ ts) t)
    ∙ ap (λ (s : List ℕ). comma_if later ++ s) (sym (append_assoc u (commas true (v ∷ ts)) (comma_if true ++ t)))
    ∙ sym (append_assoc (comma_if later) (u ++ commas true (v ∷ ts)) (comma_if true ++ t))

later_take : {A : Type 0} (f : A → List ℕ) (xs : List A) (i : ℕ) → i < length xs → is_later false (map f (take i xs)) ≡ ltb 0 i
unfolding is_later
later_take f [] i lt = absurd (omega (arith, lt))
later_take f (x ∷ xs) zero lt = refl
later_take f (x ∷ xs) (suc i) lt = sym (lt-ltb 0 (suc i) (omega arith))

-- one entry more
pub commas_more : {A : Type 0} (f : A → List ℕ) (xs : List A) (i : ℕ) (d : A) → i < length xs → commas false (map f (take (i + 1) xs)) ≡ commas false (map f (take i xs)) ++ (comma_if (ltb 0 i) ++ f (get_or xs i d))
commas_more f xs i d lt =
    ap (λ ys. commas false (map f ys)) (take_more xs i d lt)
    ∙ ap (commas false) (map-append f (take i xs) (get_or xs i d ∷ []))
    ∙ commas_push false (map f (take i xs)) (f (get_or xs i d))
    ∙ ap (λ b. commas false (map f (take i xs)) ++ (comma_if b ++ f (get_or xs i d))) (later_take f xs i lt)

-- an array that isn't closed yet, behind the text from before
abbrev pub Opened : {A : Type 0} → (A → List ℕ) → List A → List ℕ → List ℕ → Type 0
Opened f xs before text = text ≡ before ++ 91 ∷ commas false (map f xs)

pub opened_none : {A : Type 0} (f : A → List ℕ) (xs : List A) (before text : List ℕ) → text ≡ before ++ 91 ∷ [] → Opened f (take 0 xs) before text
opened_none f [] before text is = is
opened_none f (x ∷ xs) before text is = is

pub opened_more : {A : Type 0} (f : A → List ℕ) (xs : List A) (i : ℕ) (d : A) (before text text1 text2 : List ℕ) → i < length xs → Opened f (take i xs) before text → text1 ≡ text ++ comma_if (ltb 0 i) → text2 ≡ text1 ++ f (get_or xs i d) → Opened f (take (i + 1) xs) before text2
opened_more f xs i d before text text1 text2 lt is comma entry =
    let whole : commas false (map f (take (i + 1) xs)) ≡ commas false (map f (take i xs)) ++ (comma_if (ltb 0 i) ++ f (get_or xs i d)) = commas_more f xs i d lt in
    entry ∙ ap (λ (s : List ℕ). s ++ f (get_or xs i d)) (comma ∙ ap (λ (s : List ℕ). s ++ comma_if (ltb 0 i)) is)
    ∙ append_assoc (before ++ 91 ∷ commas false (map f (take i xs))) (comma_if (ltb 0 i)) (f (get_or xs i d))
    ∙ append_assoc before (91 ∷ commas false (map f (take i xs))) (comma_if (ltb 0 i) ++ f (get_or xs i d))
    ∙ ap (λ (s : List ℕ). before ++ 91 ∷ s) (sym whole)

items_are : {A : Type 0} (data_of : A → Data) (later : Bool) (xs : List A) → items_text later (items_of (map data_of xs)) ≡ commas later (map (λ x. compact_text (data_of x)) xs) ++ 93 ∷ []
items_are data_of later [] = refl
items_are data_of later (x ∷ xs) =
    ap (λ (s : List ℕ). comma_if later ++ (compact_text (data_of x) ++ s)) (items_are data_of true xs)
    ∙ ap (λ (s : List ℕ). comma_if later ++ s) (sym (append_assoc (compact_text (data_of x)) (commas true (map (λ x. compact_text (data_of x)) xs)) (93 ∷ [])))
    ∙ sym (append_assoc (comma_if later) (compact_text (data_of x) ++ commas true (map (λ x. compact_text (data_of x)) xs)) (93 ∷ []))

pub list_is : {A : Type 0} (data_of : A → Data) (xs : List A) → compact_text (list_data data_of xs) ≡ 91 ∷ (commas false (map (λ x. compact_text (data_of x)) xs) ++ 93 ∷ [])
list_is data_of xs = ap (λ (s : List ℕ). 91 ∷ s) (items_are data_of false xs)

pub closed : {A : Type 0} (data_of : A → Data) (xs taken : List A) (before text new : List ℕ) → taken ≡ xs → Opened (λ x. compact_text (data_of x)) taken before text → new ≡ text ++ 93 ∷ [] → new ≡ before ++ compact_text (list_data data_of xs)
closed {A = A} data_of xs taken before text new all is close =
    let f : A → List ℕ = λ x. compact_text (data_of x) in
    close ∙ ap (λ (s : List ℕ). s ++ 93 ∷ []) (is ∙ ap (λ ys. before ++ 91 ∷ commas false (map f ys)) all)
    ∙ append_assoc before (91 ∷ commas false (map f xs)) (93 ∷ [])
    ∙ ap (λ (s : List ℕ). before ++ s) (sym (list_is data_of xs))

-- ---- entries that each have a comma before them

commas_append : (ts us : List (List ℕ)) → commas true (ts ++ us) ≡ commas true ts ++ commas true us
commas_append [] us = refl
commas_append (t ∷ ts) us = ap (λ (s : List ℕ). 44 ∷ (t ++ s)) (commas_append ts us) ∙ ap (λ (s : List ℕ). 44 ∷ s) (sym (append_assoc t (commas true ts) (commas true us)))

pub entries_append : {A : Type 0} (data_of : A → Data) (xs ys : List A) → entries_text data_of (xs ++ ys) ≡ entries_text data_of xs ++ entries_text data_of ys
entries_append data_of xs ys = ap (commas true) (map-append (λ x. compact_text (data_of x)) xs ys) ∙ commas_append (map (λ x. compact_text (data_of x)) xs) (map (λ x. compact_text (data_of x)) ys)

pub array_is : {A : Type 0} (data_of : A → Data) (xs : List A) → array_text (entries_text data_of xs) ≡ compact_text (list_data data_of xs)
array_is data_of [] = refl
array_is data_of (x ∷ xs) = sym (list_is data_of (x ∷ xs))

-- an edge
edge_entry : (from to : ℕ) → entries_text edge_data ((from, to) ∷ []) ≡ 44 ∷ 91 ∷ (decimal from ++ 44 ∷ (decimal to ++ 93 ∷ []))
edge_entry from to = ap (λ (s : List ℕ). 44 ∷ s) (append-nil (compact_text (edge_data (from, to))))

-- one edge more
pub edge_more : (to : List ℕ) (i from : ℕ) (before text text1 text2 : List ℕ) → i < length to → text ≡ before ++ entries_text edge_data (edges_to from (take i to)) → text1 ≡ text ++ (44 ∷ 91 ∷ decimal from) → text2 ≡ text1 ++ (44 ∷ (decimal (get_or to i 0) ++ 93 ∷ []))
    → text2 ≡ before ++ entries_text edge_data (edges_to from (take (i + 1) to))
edge_more to i from before text text1 text2 lt is one two =
    let place : ℕ = get_or to i 0 in
    let opening : List ℕ = 44 ∷ 91 ∷ decimal from in
    let closing : List ℕ = 44 ∷ (decimal place ++ 93 ∷ []) in
    let old : List ℕ = entries_text edge_data (edges_to from (take i to)) in
    let edges : edges_to from (take (i + 1) to) ≡ edges_to from (take i to) ++ (from, place) ∷ [] = ap (edges_to from) (take_more to i 0 lt) ∙ map-append (λ (place : ℕ). (from, place)) (take i to) (place ∷ []) in
    let whole : entries_text edge_data (edges_to from (take (i + 1) to)) ≡ old ++ (opening ++ closing) =
    ap (entries_text edge_data) edges ∙ entries_append edge_data (edges_to from (take i to)) ((from, place) ∷ []) ∙ ap (λ (s : List ℕ). old ++ s) (edge_entry from place) in
    two ∙ ap (λ (s : List ℕ). s ++ closing) (one ∙ ap (λ (s : List ℕ). s ++ opening) is) ∙ append_assoc (before ++ old) opening closing ∙ append_assoc before old (opening ++ closing) ∙ ap (λ (s : List ℕ). before ++ s) (sym whole)

-- one step more
pub text_more : (old new : GraphText) (steps steps' : List Step) (s : Step) (k : ℕ) → steps' ≡ steps ++ s ∷ [] → k ≡ length steps → new.edges.items ≡ old.edges.items ++ entries_text edge_data (edges_to k s.next)
    → new.delivered.items ≡ old.delivered.items ++ entries_text number_data (number_if s.is_delivered k) → new.dropped.items ≡ old.dropped.items ++ entries_text number_data (number_if s.is_dropped k) → IsTextOf (graph_of steps) old → IsTextOf (graph_of steps') new
text_more old new steps steps' s k is at edges delivered dropped text =
    let graph : Graph = graph_of steps in
    record {
      edges = edges ∙ ap (λ (t : List ℕ). t ++ entries_text edge_data (edges_to k s.next)) text.edges ∙ sym (entries_append edge_data graph.edges (edges_to k s.next)) ∙ ap (entries_text edge_data) (sym (edges_more steps steps' s k is at));
      delivered = delivered ∙ ap (λ (t : List ℕ). t ++ entries_text number_data (number_if s.is_delivered k)) text.delivered ∙ sym (entries_append number_data graph.delivered (number_if s.is_delivered k)) ∙ ap (entries_text number_data) (sym (numbers_more (λ (s : Step). s.is_delivered) steps steps' s k is at));
      dropped = dropped ∙ ap (λ (t : List ℕ). t ++ entries_text number_data (number_if s.is_dropped k)) text.dropped ∙ sym (entries_append number_data graph.dropped (number_if s.is_dropped k)) ∙ ap (entries_text number_data) (sym (numbers_more (λ (s : Step). s.is_dropped) steps steps' s k is at));
    }
