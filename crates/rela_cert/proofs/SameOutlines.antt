-- `==` of outlines decides whether they are equal.
use Rattle.std.proofs.Common.{◌≡◌, Bool, nat_eq, true, ◌&&◌, List, refl, subst}
use Rattle.std.specs.Prelude.{◌==◌}
use Rattle.std.specs.Bool.{Decides, beq}
use Rattle.std.specs.Cmp.{booleans_Decides}
use Rattle.std.specs.Cmp.Lexicographic.{pointwise}
use Rattle.std.proofs.lemmas.Bool.{and_from, and_parts, eq-eqb, eqb-true}
use Rattle.std.proofs.lemmas.Slice.Eq.{bytes_eq-Decides, slice_eq-Decides}
use Rattle.rela_graph.specs.Outline.{Outline, same_link, same_outline}
use Rattle.rela_graph.specs.SameOutline.{outlines_equivalent}
use Rattle.rela_graph.specs.declared.node.Link.{Link}

links_decide : (x y : Link) → Decides (same_link x y) (x ≡ y)
links_decide x y = (
  λ alike.
      let ends = and_parts (x.a == y.a) (x.b == y.b) alike in
      let a = eqb-true x.a y.a ends.0 in
      let b = eqb-true x.b y.b ends.1 in
      λ i. record { a = a i; b = b i },
  λ e. subst (λ z. same_link x z ≡ true) e (and_from (x.a == x.a) (x.b == x.b) (eq-eqb x.a x.a refl) (eq-eqb x.b x.b refl)),
)

flags_equal : (xs ys : List Bool) → pointwise beq xs ys ≡ true → xs ≡ ys
flags_equal xs ys = (slice_eq-Decides booleans_Decides xs ys (pointwise beq xs ys) refl).0

equal_outlines : (x y : Outline) → same_outline x y ≡ true → x ≡ y
equal_outlines x y alike =
    let dropped : Bool = pointwise beq x.dropped y.dropped in
    let delivered : Bool = pointwise beq x.delivered y.delivered && dropped in
    let starts : Bool = pointwise beq x.starts y.starts && delivered in
    let first = and_parts (pointwise nat_eq x.places y.places) (pointwise same_link x.edges y.edges && starts) alike in
    let second = and_parts (pointwise same_link x.edges y.edges) starts first.1 in
    let third = and_parts (pointwise beq x.starts y.starts) delivered second.1 in
    let fourth = and_parts (pointwise beq x.delivered y.delivered) dropped third.1 in
    let places = (bytes_eq-Decides x.places y.places).0 first.0 in
    let edges = (slice_eq-Decides links_decide x.edges y.edges (pointwise same_link x.edges y.edges) refl).0 second.0 in
    let begun = flags_equal x.starts y.starts third.0 in
    let ended = flags_equal x.delivered y.delivered fourth.0 in
    let lost = flags_equal x.dropped y.dropped fourth.1 in
    λ i. record { places = places i; edges = edges i; starts = begun i; delivered = ended i; dropped = lost i }

pub outlines_decide : (x y : Outline) → Decides (same_outline x y) (x ≡ y)
outlines_decide x y = (equal_outlines x y, λ e. subst (λ z. same_outline x z ≡ true) e (outlines_equivalent.refl x))
