-- Flows of one name have one class in both snapshots.
use Rattle.std.proofs.Common.{◌≡◌, ◌∙◌, refl, sym, ap, subst, ℕ, zero, suc, ◌+◌, Bool, true, false, cond, List, [], ◌∷◌, get_or, Option, Some, arith}
use Rattle.std.proofs.Common.{lit<}
use Rattle.std.specs.Prelude.{slice_get}
use Rattle.std.specs.List.{AllZip, find}
use Rattle.std.specs.Str.{bytes_eq}
use Rattle.std.specs.Cmp.Lexicographic.{bytes_decides}
use Rattle.rela_flows.specs.declared.predicate.FlowClass.{FlowClass}
use Rattle.rela_snapshot.specs.FlowEntry.{ListedFlow}
use Rattle.rela_snapshot.specs.Flows.{IsFlowOf}
use Rattle.rela_snapshot.specs.declared.snapshot.Flow.{Flow}
use Rattle.rela_demo.specs.Flows.{class, classes, flows_after, flows_before}
use Rattle.rela_demo.specs.Input.{DoNotDiffer}

first : FlowClass
first = class 1 (lit< tt) refl

-- one of the eight, with its name
Known : FlowClass → Type 0
Known c = (i : ℕ) × (c.name ≡ 102 ∷ (49 + i) ∷ []) × (c ≡ get_or classes i first)

AreListed : List ListedFlow → Type 0
AreListed [] = Unit {0}
AreListed (l ∷ ls) = Known l.class × AreListed ls

AreKnown : List Flow → Type 0
AreKnown [] = Unit {0}
AreKnown (f ∷ fs) = Known f.class × AreKnown fs

are_known : (ls : List ListedFlow) (fs : List Flow) → AllZip IsFlowOf ls fs → AreListed ls → AreKnown fs
unfolding AreListed AreKnown
are_known [] [] zip are = tt
are_known [] (f ∷ fs) zip are = absurd zip
are_known (l ∷ ls) [] zip are = absurd zip
are_known (l ∷ ls) (f ∷ fs) zip are = (subst Known (sym zip.0.class) are.0, are_known ls fs zip.1 are.1)

known_at : (fs : List Flow) (row : ℕ) (flow : Flow) → AreKnown fs → slice_get fs row ≡ Some flow → Known flow.class
unfolding AreKnown
known_at [] row flow are at = cc
known_at (f ∷ fs) zero flow are at = let same : f ≡ flow = cc in subst (λ (x : Flow). Known x.class) same are.0
known_at (f ∷ fs) (suc row) flow are at = known_at fs row flow are.1 at

-- what is found passes, and is one of them
Passing : (Flow → Bool) → Flow → Type 0
Passing p flow = Known flow.class × (p flow ≡ true)

find_by : (p : Flow → Bool) (b : Bool) (f : Flow) (rest : Option Flow) (other : Flow) → p f ≡ b → Known f.class → (rest ≡ Some other → Passing p other) → cond b (Some f) rest ≡ Some other → Passing p other
unfolding Passing
find_by p true f rest other is known later found = let same : f ≡ other = cc in (subst (λ (x : Flow). Known x.class) same known, ap p (sym same) ∙ is)
find_by p false f rest other is known later found = later found

known_found : (p : Flow → Bool) (fs : List Flow) (other : Flow) → AreKnown fs → find p fs ≡ Some other → Passing p other
unfolding AreKnown
known_found p [] other are found = cc
known_found p (f ∷ fs) other are found = find_by p (p f) f (find p fs) other refl are.0 (known_found p fs other are.1) found

-- ---- the names

second_same : (x y a b : ℕ) → x ∷ a ∷ [] ≡ y ∷ b ∷ [] → a ≡ b
second_same x y a b e = cc

same_class : (a b : FlowClass) → Known a → Known b → bytes_eq a.name b.name ≡ true → a ≡ b
unfolding Known
same_class a b known known' e =
    let names : a.name ≡ b.name = (bytes_decides a.name b.name).0 e in
    let numbers : 49 + known.0 ≡ 49 + known'.0 = second_same 102 102 (49 + known.0) (49 + known'.0)
    (sym known.1 ∙ names ∙ known'.1) in
    let same : known.0 ≡ known'.0 = omega (arith, numbers) in
    known.2 ∙ ap (λ (i : ℕ). get_or classes i first) same ∙ sym known'.2

before_listed : (n : ℕ) → AreListed (flows_before n)
unfolding AreListed Known
before_listed n = ((0, refl, refl), ((1, refl, refl), ((2, refl, refl), ((3, refl, refl), ((4, refl, refl), ((5, refl, refl), ((6, refl, refl), ((7, refl, refl), tt))))))))

after_listed : (n : ℕ) → AreListed (flows_after n)
unfolding AreListed Known
after_listed n = ((0, refl, refl), ((1, refl, refl), ((2, refl, refl), ((3, refl, refl), ((4, refl, refl), ((5, refl, refl), ((6, refl, refl), ((7, refl, refl), tt))))))))

pub do_not_differ : (n : ℕ) → DoNotDiffer n
unfolding Passing
do_not_differ n before after are_before are_after row c d difference =
    let flow : Flow = difference.flow in
    let known : Known flow.class = known_at before row flow (are_known (flows_before n) before are_before (before_listed n)) difference.at in
    let passing : Passing (λ (f : Flow). bytes_eq flow.class.name f.class.name) difference.other =
    known_found (λ (f : Flow). bytes_eq flow.class.name f.class.name) after difference.other (are_known (flows_after n) after are_after (after_listed n)) difference.named in
    difference.differs (same_class flow.class difference.other.class known passing.0 passing.1)
