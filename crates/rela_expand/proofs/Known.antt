-- What is known of classes that were listed before stays so as the table grows.
use Rattle.std.proofs.Common.{◌≡◌, ℕ, Bool, true, false, cond, ◌&&◌, List, [], ◌∷◌, ◌++◌, map, Some, refl, ap, sym, subst, ◌∙◌, rules, Vec, Global}
use Rattle.std.specs.Prelude.{nat_eq}
use Rattle.std.specs.Bool.{beq}
use Rattle.std.specs.Cmp.{booleans_Decides}
use Rattle.std.specs.Cmp.Lexicographic.{pointwise}
use Rattle.std.specs.HashMap.{get}
use Rattle.std.proofs.lemmas.List.{append-nil}
use Rattle.std.proofs.lemmas.Slice.Eq.{bytes_eq-Decides}
use Rattle.std.proofs.lemmas.Bool.{eqb-true}
use Rattle.std.specs.Str.{bytes_eq}
use denote.Enum.Bare.{same_true, sameb}
use Rattle.rela_locations.specs.contracts.members.By.{the_type as by_type}
use Rattle.rela_spec.specs.declared.tree.Member.{Member}
use Rattle.rela_expand.specs.Forms.{shape_at}
use Rattle.rela_expand.specs.Known.{AreWritten, ArePlaced, Gives, class_of, picked, same_written, table_of}
use Rattle.rela_expand.specs.Numbered.{or_none, listing, placed, numbered}
use Rattle.rela_expand.specs.Numbering.{Listing, Numbering, Step}
use Rattle.rela_expand.specs.Places.{Place, in_some, located}
use Rattle.rela_expand.specs.Shapes.{Shape}
use Rattle.rela_expand.specs.Tables.{entry_of, numbering_of}
use Rattle.rela_expand.specs.contracts.written.PickPartialEq.TheImpl.{eq-value as pick_equal}
use Rattle.rela_translate.specs.declared.body.Expr.TheVariants as x
use Rattle.rela_expand.specs.declared.entry.Entry.{Entry}
use Rattle.rela_expand.specs.declared.numbers.Numbers.{Numbers}
use Rattle.rela_expand.specs.declared.written.Pick.{Pick}
use Rattle.rela_expand.specs.declared.written.Pick.TheVariants as pick
use Rattle.rela_expand.specs.declared.written.Written.{Written}
use Rattle.rela_expand.proofs.Membership.{and_left, and_right}
use Rattle.rela_expand.proofs.Numberings.{Grown, numbered_again, placed_again, table_grows}

-- What has been numbered comes to the same again.
module _ {X : Type 0} (f : Numbering → Step X) (again : (n m : Numbering) → Grown (f n).after m → f m ≡ record { value = (f n).value; after = m }) where
  pub gives_again : (n m : Numbering) (v : X) → f n ≡ record { value = v; after = m } → Gives f v m.classes
  gives_again n m v is markers =
      let now : Numbering = record { classes = m.classes; markers = markers } in
      let same : m.classes ≡ (f n).after.classes = ap (λ (s : Step X). s.after.classes) (sym is) in
      again n now (record { more = []; is = same ∙ sym (append-nil (f n).after.classes) })
      ∙ (λ i. record { value = (is i).value; after = now })

  pub gives_later : (old new more : List Listing) (v : X) → new ≡ old ++ more → Gives f v old → Gives f v new
  gives_later old new more v grown gives markers =
      let before : Numbering = record { classes = old; markers = markers } in
      let now : Numbering = record { classes = new; markers = markers } in
      let same : old ++ more ≡ (f before).after.classes ++ more = ap (λ (s : Step X). s.after.classes ++ more) (sym (gives markers)) in
      again before now (record { more = more; is = grown ∙ same })
      ∙ (λ i. record { value = (gives markers i).value; after = now })

-- the table with one class more
more_of : (c : Listing) (k : ℕ) (old new : Numbers) → placed c (numbering_of old) ≡ record { value = k; after = numbering_of new }
    → (more : List Listing) × (table_of new ≡ table_of old ++ more)
more_of c k old new is =
    let grows = table_grows (table_of old) c in (grows.0, ap (λ (s : Step ℕ). s.after.classes) (sym is) ∙ grows.1)

abbrev pub same_pick : Pick → Pick → Bool
same_pick = pick_equal.it

pub same_picked : (place : Place) (a b : Pick) → same_pick a b ≡ true → picked place a ≡ picked place b
same_picked place (pick.Within a x) (pick.Within b y) same =
    let both : (sameb by_type a b && bytes_eq x.now y.now) ≡ true = same in
    let by : a ≡ b = same_true by_type (search rules) a b (and_left (sameb by_type a b) (bytes_eq x.now y.now) both) in
    let name : x.now ≡ y.now = (bytes_eq-Decides x.now y.now).0 (and_right (sameb by_type a b) (bytes_eq x.now y.now) both) in
    λ i. or_none (located place (by i) (name i) 0)
same_picked place (pick.Within a x) pick.Drop same = absurd (cc)
same_picked place (pick.Within a x) pick.Loop same = absurd (cc)
same_picked place pick.Drop (pick.Within b y) same = absurd (cc)
same_picked place pick.Drop pick.Drop same = refl
same_picked place pick.Drop pick.Loop same = absurd (cc)
same_picked place pick.Loop (pick.Within b y) same = absurd (cc)
same_picked place pick.Loop pick.Drop same = absurd (cc)
same_picked place pick.Loop pick.Loop same = refl

same_picks : (place : Place) (xs ys : List Pick) → pointwise same_pick xs ys ≡ true → map (picked place) xs ≡ map (picked place) ys
same_picks place [] [] same = refl
same_picks place [] (y ∷ ys) same = absurd (cc)
same_picks place (x ∷ xs) [] same = absurd (cc)
same_picks place (x ∷ xs) (y ∷ ys) same =
    let first = same_picked place x y (and_left (same_pick x y) (pointwise same_pick xs ys) same) in
    let others = same_picks place xs ys (and_right (same_pick x y) (pointwise same_pick xs ys) same) in λ i. first i ∷ others i

same_class : (place : Place) (a b : Written) → same_written a b ≡ true → class_of place a ≡ class_of place b
same_class place a b same =
    let flags = (booleans_Decides a.negated b.negated).0 (and_left (beq a.negated b.negated) (pointwise same_pick a.picks.items b.picks.items) same) in
    let lists = same_picks place a.picks.items b.picks.items (and_right (beq a.negated b.negated) (pointwise same_pick a.picks.items b.picks.items) same) in
    λ i. record { negated = flags i; members = in_some place (lists i) }

from_some : (k number : ℕ) → Some k ≡ Some number → k ≡ number
from_some k number is = cc

-- the entry of a class lists what is picked
pub entry_listed : (place : Place) (negated : Bool) (members : List Member) (written : Written) (entry : Entry) (picks : List Pick) (symbols : Vec ℕ Global)
    → class_of place written ≡ listing place negated members → entry.negated ≡ negated → entry.members ≡ symbols
    → symbols.items ≡ in_some place (map (picked place) picks) → picks ≡ written.picks.items → entry_of entry ≡ listing place negated members
entry_listed place negated members written entry picks symbols class flag list found all =
    let these : entry.members.items ≡ (listing place negated members).members =
    ap (λ (v : Vec ℕ Global). v.items) list ∙ found ∙ ap (λ (ps : List Pick). in_some place (map (picked place) ps)) all
    ∙ ap (λ (l : Listing). l.members) class in
    λ i. record { negated = flag i; members = these i }

-- a number that is known by what is written is that of the class
pub number_known : (place : Place) (numbers : Numbers) (written : Written) (c : Listing) (k : ℕ) → AreWritten place numbers → class_of place written ≡ c
    → get same_written numbers.written written ≡ Some k → placed c (numbering_of numbers) ≡ record { value = k; after = numbering_of numbers }
number_known place numbers written c k known class found =
    subst (λ (d : Listing). placed d (numbering_of numbers) ≡ record { value = k; after = numbering_of numbers }) class (known written k found numbers.markers)

-- a class is numbered, and its number is known from then on by what is written
pub written_known : (place : Place) (c : Listing) (old mid new : Numbers) (written : Written) (k : ℕ) → AreWritten place old
    → class_of place written ≡ c → placed c (numbering_of old) ≡ record { value = k; after = numbering_of new } → mid.written ≡ old.written
    → ((q : Written) → get same_written new.written q ≡ cond (same_written written q) (Some k) (get same_written mid.written q))
    → AreWritten place new
written_known place c old mid new written k known class is kept told q number found =
    by_test (same_written written q) refl (ap (λ m. cond (same_written written q) (Some k) (get same_written m q)) (sym kept) ∙ sym (told q) ∙ found)
  where
    by_test : (b : Bool) → same_written written q ≡ b → cond b (Some k) (get same_written old.written q) ≡ Some number → Gives (placed (class_of place q)) number (table_of new)
    by_test true same found =
        let this : c ≡ class_of place q = sym class ∙ same_class place written q same in
        subst (λ (d : Listing). Gives (placed d) number (table_of new)) this
        (subst (λ (n : ℕ). Gives (placed c) n (table_of new)) (from_some k number found) (gives_again (placed c) (placed_again c) (numbering_of old) (numbering_of new) k is))
    by_test false apart found =
        let more = more_of c k old new is in
        gives_later (placed (class_of place q)) (placed_again (class_of place q)) (table_of old) (table_of new) more.0 number more.1 (known q number found)

-- what is known by places stays so
pub places_later : (place : Place) (shapes : List Shape) (c : Listing) (old new : Numbers) (k : ℕ)
    → placed c (numbering_of old) ≡ record { value = k; after = numbering_of new } → new.places ≡ old.places → ArePlaced place shapes old → ArePlaced place shapes new
places_later place shapes c old new k is same known at number found =
    let more = more_of c k old new is in
    gives_later (numbered place (shape_at shapes at)) (numbered_again place (shape_at shapes at)) (table_of old) (table_of new) more.0 (x.Class number) more.1
    (known at number (ap (λ places. get nat_eq places at) (sym same) ∙ found))

-- a class is numbered, and its number is known from then on by the place of its form
pub place_known : (place : Place) (shapes : List Shape) (old mid new : Numbers) (at k : ℕ) → ArePlaced place shapes mid
    → numbered place (shape_at shapes at) (numbering_of old) ≡ record { value = x.Class k; after = numbering_of mid } → table_of new ≡ table_of mid
    → ((q : ℕ) → get nat_eq new.places q ≡ cond (nat_eq at q) (Some k) (get nat_eq mid.places q))
    → ArePlaced place shapes new
place_known place shapes old mid new at k known is table told q number found = by_test (nat_eq at q) refl (sym (told q) ∙ found)
  where
    by_test : (b : Bool) → nat_eq at q ≡ b → cond b (Some k) (get nat_eq mid.places q) ≡ Some number → Gives (numbered place (shape_at shapes q)) (x.Class number) (table_of new)
    by_test true same found =
        subst (λ (cs : List Listing). Gives (numbered place (shape_at shapes q)) (x.Class number) cs) (sym table)
        (subst (λ (p : ℕ). Gives (numbered place (shape_at shapes p)) (x.Class number) (table_of mid)) (eqb-true at q same)
        (subst (λ (n : ℕ). Gives (numbered place (shape_at shapes at)) (x.Class n) (table_of mid)) (from_some k number found)
        (gives_again (numbered place (shape_at shapes at)) (numbered_again place (shape_at shapes at)) (numbering_of old) (numbering_of mid) (x.Class k) is)))
    by_test false apart found =
        subst (λ (cs : List Listing). Gives (numbered place (shape_at shapes q)) (x.Class number) cs) (sym table) (known q number found)
