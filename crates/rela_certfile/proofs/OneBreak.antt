-- A text breaks at one line at most, and that of listed rows at none.
use Rattle.std.proofs.Common.{◌≡◌, ℕ, ◌+◌, ◌^◌, ◌<◌, ◌≤◌, ◌⊎◌, ⊎_elim, inl, inr, suc, List, [], ◌∷◌, ◌++◌, length, map, refl, sym, ◌∙◌, ap, subst, append_assoc, append-nil, length-append, arith}
use Rattle.std.specs.Prelude.{nat_le}
use Rattle.std.specs.List.{AllByRecursion}
use Rattle.rela_certfile.specs.declared.rows.ListedRow.{ListedRow}
use Rattle.rela_certfile.specs.declared.item.Item.{Item}
use Rattle.rela_certfile.specs.declared.item.State.{State}
use Rattle.rela_certfile.specs.Breaks.{Begins, BreaksAt}
use Rattle.rela_certfile.specs.Cut.{Lacks}
use Rattle.rela_certfile.specs.Layout.{Layout, IsLayout}
use Rattle.rela_certfile.specs.Listed.{AreListed}
use Rattle.rela_certfile.specs.Text.{ended, header, last_line, lines_of, text_of}
use Rattle.rela_certfile.specs.Items.{after, item_line, start, Runs}
use Rattle.rela_certfile.proofs.Breaking.{end_lacks}
use Rattle.rela_certfile.proofs.ItemLines.{item_lacks, bytes_lack}
use Rattle.rela_certfile.proofs.Once.{line_once}
use Rattle.rela_certfile.proofs.Progress.{ended_long}
use Rattle.rela_certfile.proofs.Reading.{Small, closes_of, lines_are, small_after, small_fits, small_start}
use Rattle.rela_certfile.proofs.Running.{items_of}

-- no line holds a line feed
abbrev AreLines : List (List ℕ) → Type 0
AreLines lines = AllByRecursion (λ line. Lacks 10 line) lines

only_none : (lines more : List (List ℕ)) → [] ≡ lines ++ more → AreLines lines
only_none [] more none = tt
only_none (x ∷ lines) more none = cc

-- so many of the first lines of items
first_lines : (l : Layout) (n : ℕ) (state : State) (items : List Item) (lines more : List (List ℕ)) → IsLayout l → Small n state → Runs l state items → map (item_line l) items ++ last_line ∷ [] ≡ lines ++ more → n + length lines ≤ 2 ^ 32 → AreLines lines
first_lines l n state items [] more is small runs same few = tt
first_lines l n state [] (x ∷ lines) more is small runs same few =
    let last : last_line ≡ x = cc in
    let none : [] ≡ lines ++ more = cc in
    (subst (λ line. Lacks 10 line) last end_lacks, only_none lines more none)
first_lines l n state (i ∷ items) (x ∷ lines) more is small runs same few =
    let line : item_line l i ≡ x = cc in
    let others : map (item_line l) items ++ last_line ∷ [] ≡ lines ++ more = cc in (
      subst (λ line. Lacks 10 line) line (item_lacks l state i is (small_fits n state (omega arith) small) runs.0),
      first_lines l (suc n) (after l state i) items lines more is (small_after l n state i is small) runs.1 others (omega arith),
    )

header_lacks : Lacks 10 header
header_lacks = bytes_lack (λ c. nat_le 32 c) 10 refl header refl

-- lines that begin a certificate
begun_lines : (l : Layout) (lines : List (List ℕ)) → IsLayout l → length lines ≤ 2 ^ 32 → Begins l lines → AreLines lines
begun_lines l [] is few begins = tt
begun_lines l (x ∷ lines) is few begins =
    let same : header ∷ (map (item_line l) (items_of begins.rows) ++ last_line ∷ []) ≡ x ∷ (lines ++ begins.more) = sym (lines_are l begins.rows) ∙ begins.begun in
    let first : header ≡ x = cc in
    let others : map (item_line l) (items_of begins.rows) ++ last_line ∷ [] ≡ lines ++ begins.more = cc in (
      subst (λ line. Lacks 10 line) first header_lacks,
      first_lines l 1 start (items_of begins.rows) lines begins.more is small_start (closes_of l begins.rows begins.listed).runs others (omega arith),
    )

-- two ways to cut a text into lines and a rest: one has all lines of the other
Further : (a b : List (List ℕ)) (x y : List ℕ) → Type 0
Further a b x y = (c : List (List ℕ)) × (a ≡ b ++ c) × (y ≡ ended c ++ x)

aligned : (a b : List (List ℕ)) (x y : List ℕ) → AreLines a → AreLines b → ended a ++ x ≡ ended b ++ y → Further a b x y ⊎ Further b a y x
unfolding Further
aligned a [] x y left right same = inl (a, refl, sym same)
aligned [] (d ∷ b) x y left right same = inr (d ∷ b, refl, same)
aligned (c ∷ a) (d ∷ b) x y left right same =
    let parts : (c ≡ d) × (ended a ++ x ≡ ended b ++ y) =
    line_once c d (ended a ++ x) (ended b ++ y) left.0 right.0 (sym (append_assoc (c ++ 10 ∷ []) (ended a) x) ∙ same ∙ append_assoc (d ++ 10 ∷ []) (ended b) y) in
    let first : c ≡ d = parts.0 in
    ⊎_elim
    (λ (more : Further a b x y). inl (more.0, ap (λ k. k ∷ a) first ∙ ap (λ more. d ∷ more) more.1, more.2))
    (λ (more : Further b a y x). inr (more.0, ap (λ k. k ∷ b) (sym first) ∙ ap (λ more. c ∷ more) more.1, more.2))
    (aligned a b x y left.1 right.1 parts.1)

-- the first of some further lines would be allowed
refuted : (l : Layout) (text : List ℕ) (n : ℕ) (a : List (List ℕ)) (x : List ℕ) (b : BreaksAt l text n) → Begins l a → (c : List (List ℕ)) → a ≡ b.before ++ c → b.after ≡ ended c ++ x → c ≡ []
refuted l text n a x b begins [] is rest = refl
refuted l text n a x b begins (line ∷ c) is rest =
    let begun : lines_of l begins.rows ≡ (b.before ++ line ∷ []) ++ (c ++ begins.more) =
    begins.begun ∙ ap (λ lines. lines ++ begins.more) is
    ∙ append_assoc b.before (line ∷ c) begins.more
    ∙ sym (append_assoc b.before (line ∷ []) (c ++ begins.more)) in
    absurd (b.breaks line (ended c ++ x) (rest ∙ append_assoc (line ++ 10 ∷ []) (ended c) x) (record { rows = begins.rows; more = c ++ begins.more; listed = begins.listed; begun = begun }))

few_lines : (text : List ℕ) (lines : List (List ℕ)) (rest : List ℕ) → length text < 2 ^ 32 → text ≡ ended lines ++ rest → length lines ≤ 2 ^ 32
few_lines text lines rest short is = omega (arith, ended_long lines, ap length is, length-append (ended lines) rest)

-- a text breaks at one line at most
pub breaks_once : (l : Layout) (text : List ℕ) (m n : ℕ) → IsLayout l → length text < 2 ^ 32 → BreaksAt l text m → BreaksAt l text n → m ≡ n
unfolding Further
breaks_once l text m n is short a b =
    let left : AreLines a.before = begun_lines l a.before is (few_lines text a.before a.after short a.cut) a.begins in
    let right : AreLines b.before = begun_lines l b.before is (few_lines text b.before b.after short b.cut) b.begins in
    ⊎_elim
    (λ (more : Further a.before b.before a.after b.after).
    let none : more.0 ≡ [] = refuted l text n a.before a.after b a.begins more.0 more.1 more.2 in
    let same : a.before ≡ b.before = more.1 ∙ ap (λ c. b.before ++ c) none ∙ append-nil b.before in
    a.numbered ∙ ap (λ lines. length lines + 1) same ∙ sym b.numbered)
    (λ (more : Further b.before a.before b.after a.after).
    let none : more.0 ≡ [] = refuted l text m b.before b.after a b.begins more.0 more.1 more.2 in
    let same : b.before ≡ a.before = more.1 ∙ ap (λ c. a.before ++ c) none ∙ append-nil a.before in
    a.numbered ∙ ap (λ lines. length lines + 1) (sym same) ∙ sym b.numbered)
    (aligned a.before b.before a.after b.after left right (sym a.cut ∙ b.cut))

no_more : (c : List (List ℕ)) (x : List ℕ) → [] ≡ ended c ++ x → c ≡ []
no_more [] x none = refl
no_more (line ∷ c) x none =
    absurd (omega (arith, ap length none, length-append (ended (line ∷ c)) x, length-append (line ++ 10 ∷ []) (ended c), length-append line (10 ∷ [])))

-- the text of listed rows breaks nowhere
pub unbroken : (l : Layout) (rows : List ListedRow) (n : ℕ) → IsLayout l → AreListed l rows → length (text_of l rows) < 2 ^ 32 → BreaksAt l (text_of l rows) n → ⊥
unfolding Further
unbroken l rows n is listed short b =
    let whole : Begins l (lines_of l rows) = record { rows = rows; more = []; listed = listed; begun = sym (append-nil (lines_of l rows)) } in
    let plain : text_of l rows ≡ ended (lines_of l rows) ++ [] = sym (append-nil (text_of l rows)) in
    let left : AreLines (lines_of l rows) = begun_lines l (lines_of l rows) is (few_lines (text_of l rows) (lines_of l rows) [] short plain) whole in
    let right : AreLines b.before = begun_lines l b.before is (few_lines (text_of l rows) b.before b.after short b.cut) b.begins in
    ⊎_elim
    (λ (more : Further (lines_of l rows) b.before [] b.after).
    let none : more.0 ≡ [] = refuted l (text_of l rows) n (lines_of l rows) [] b whole more.0 more.1 more.2 in
    b.unfinished (more.2 ∙ ap (λ c. ended c ++ []) none) rows listed (more.1 ∙ ap (λ c. b.before ++ c) none ∙ append-nil b.before))
    (λ (more : Further b.before (lines_of l rows) b.after []).
    let none : more.0 ≡ [] = no_more more.0 b.after more.2 in
    b.unfinished (sym (more.2 ∙ ap (λ c. ended c ++ b.after) none)) rows listed (sym (more.1 ∙ ap (λ c. lines_of l rows ++ c) none ∙ append-nil (lines_of l rows))))
    (aligned (lines_of l rows) b.before [] b.after left right (sym plain ∙ b.cut))
