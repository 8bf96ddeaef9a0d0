-- The last member of a name.
use Rattle.std.proofs.Common.{◌≡◌, false, bytes_eq, true≢false, ℕ, zero, suc, ◌+◌, ◌<◌, ◌≤◌, List, [], ◌∷◌, ◌++◌, Some, length, map, take, get_or, refl, sym, ap, ◌∙◌, arith}
use Rattle.std.proofs.lemmas.List.{map-append, take_more, take_all}
use Rattle.std.proofs.lemmas.Slice.Eq.{bytes_eq-Decides}
use Rattle.serde_json.specs.Data.{Data, Members, no_members, put}
use Rattle.serde_json.specs.Find.{get_member}
use Rattle.serde_json.proofs.Views.{get_member-put, get_member-put_other}
use Rattle.rela_tokens.specs.Objects.{puts}
use Rattle.rela_tokens.specs.Pieces.{data_of, member_of}
use Rattle.rela_tokens.specs.declared.piece.Member.{Member}

puts_more : (ms : List (List ℕ × Data)) (m : List ℕ × Data) (found : Members) → puts (ms ++ m ∷ []) found ≡ put m.0 m.1 (puts ms found)
puts_more [] m found = refl
puts_more (one ∷ ms) m found = puts_more ms m (put one.0 one.1 found)

abbrev pub members_before : ℕ → List Member → Members
members_before n ms = puts (map member_of (take n ms)) no_members

before_more : (n : ℕ) (ms : List Member) (m : Member) → n < length ms → m ≡ get_or ms n m → members_before (n + 1) ms ≡ put m.name.now (data_of m.piece) (members_before n ms)
before_more n ms m lt is =
    ap (λ (xs : List Member). puts (map member_of xs) no_members) (take_more ms n m lt ∙ ap (λ (x : Member). take n ms ++ x ∷ []) (sym is))
    ∙ ap (λ (xs : List (List ℕ × Data)). puts xs no_members) (map-append member_of (take n ms) (m ∷ []))
    ∙ puts_more (map member_of (take n ms)) (member_of m) no_members

-- the member at a place has the name
pub found_here : (name : List ℕ) (n : ℕ) (ms : List Member) (m : Member) → n < length ms → m ≡ get_or ms n m → m.name.now ≡ name → get_member name (members_before (n + 1) ms) ≡ Some (data_of m.piece)
found_here name n ms m lt is same =
    ap (get_member name) (before_more n ms m lt is)
    ∙ ap (λ (key : List ℕ). get_member name (put key (data_of m.piece) (members_before n ms))) same
    ∙ get_member-put name (data_of m.piece) (members_before n ms)

-- it has another
pub not_here : (name : List ℕ) (n : ℕ) (ms : List Member) (m : Member) → n < length ms → m ≡ get_or ms n m → (name ≡ m.name.now → ⊥) → get_member name (members_before (n + 1) ms) ≡ get_member name (members_before n ms)
not_here name n ms m lt is other =
    ap (get_member name) (before_more n ms m lt is) ∙ get_member-put_other name m.name.now (data_of m.piece) (members_before n ms) other

pub all_before : (name : List ℕ) (n : ℕ) (ms : List Member) → length ms ≤ n → get_member name (members_before n ms) ≡ get_member name (puts (map member_of ms) no_members)
all_before name n ms le = ap (λ (xs : List Member). get_member name (puts (map member_of xs) no_members)) (take_all n ms le)

-- the same, by the number of members that are left before it is looked at and after
pub last_here : (name : List ℕ) (n left : ℕ) (ms : List Member) (m : Member) → n ≡ left + 1 → n ≤ length ms → m ≡ get_or ms left m → m.name.now ≡ name → get_member name (members_before n ms) ≡ Some (data_of m.piece)
last_here name n left ms m one le is same = ap (λ k. get_member name (members_before k ms)) one ∙ found_here name left ms m (omega arith) is same

pub last_other : (name : List ℕ) (n left : ℕ) (ms : List Member) (m : Member) → n ≡ left + 1 → n ≤ length ms → m ≡ get_or ms left m → (name ≡ m.name.now → ⊥) → get_member name (members_before n ms) ≡ get_member name (members_before left ms)
last_other name n left ms m one le is other = ap (λ k. get_member name (members_before k ms)) one ∙ not_here name left ms m (omega arith) is other

-- what stands at a place, whatever else would
pub same_at : {X : Type 0} (xs : List X) (k : ℕ) (a b : X) → k < length xs → get_or xs k a ≡ get_or xs k b
same_at [] k a b lt = absurd (omega arith)
same_at (x ∷ xs) zero a b lt = refl
same_at (x ∷ xs) (suc k) a b lt = same_at xs k a b (omega arith)

pub differs : (xs ys : List ℕ) → bytes_eq xs ys ≡ false → ys ≡ xs → ⊥
differs xs ys unequal same = true≢false (sym ((bytes_eq-Decides xs ys).1 (sym same)) ∙ unequal)
