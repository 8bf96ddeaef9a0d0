-- What a key of a map has to keep, for outlines: the comparison is an equivalence, and what it finds equal is hashed alike.
use Rattle.std.specs.Prelude.{◌≡◌, true, nat_eq}
use Rattle.std.proofs.Common.{ap}
use Rattle.std.specs.Bool.{beq}
use Rattle.std.specs.Cmp.{IsEquivalence, bool_eq_equiv, booleans_Decides}
use Rattle.std.specs.Hash as fed
use Rattle.std.specs.Hash.{Alike, same_Alike, on_Alike, items_Alike, and-Alike}
use Rattle.std.proofs.lemmas.Bool.{eqb-true}
use Rattle.std.proofs.lemmas.Cmp.{and_equiv, on_equiv, lists_equiv, nat_eq_equiv, nat_list_eq_equiv}
use Rattle.rela_graph.specs.Outline.{Outline, same_link, same_outline, link_writes, outline_writes}
use Rattle.rela_graph.specs.declared.node.Link.{Link}

links_equivalent : IsEquivalence same_link
links_equivalent = and_equiv (on_equiv (λ (l : Link). l.a) nat_eq_equiv)
    (on_equiv (λ (l : Link). l.b) nat_eq_equiv)

pub outlines_equivalent : IsEquivalence same_outline
outlines_equivalent =
    and_equiv (on_equiv (λ (o : Outline). o.places) nat_list_eq_equiv)
    (and_equiv (on_equiv (λ (o : Outline). o.edges) (lists_equiv links_equivalent))
    (and_equiv (on_equiv (λ (o : Outline). o.starts) (lists_equiv bool_eq_equiv))
    (and_equiv (on_equiv (λ (o : Outline). o.delivered) (lists_equiv bool_eq_equiv))
    (on_equiv (λ (o : Outline). o.dropped) (lists_equiv bool_eq_equiv)))))

numbers_alike : Alike nat_eq fed.u32
numbers_alike = record { fed = λ x y same. ap fed.u32 (eqb-true x y same) }

links_alike : Alike same_link link_writes
links_alike = and-Alike (on_Alike (λ (l : Link). l.a) numbers_alike)
    (on_Alike (λ (l : Link). l.b) numbers_alike)

flags_alike : Alike beq fed.bool
flags_alike = same_Alike fed.bool booleans_Decides

outlines_alike : Alike same_outline outline_writes
outlines_alike =
    and-Alike (on_Alike (λ (o : Outline). o.places) (items_Alike numbers_alike))
    (and-Alike (on_Alike (λ (o : Outline). o.edges) (items_Alike links_alike))
    (and-Alike (on_Alike (λ (o : Outline). o.starts) (items_Alike flags_alike))
    (and-Alike (on_Alike (λ (o : Outline). o.delivered) (items_Alike flags_alike))
    (on_Alike (λ (o : Outline). o.dropped) (items_Alike flags_alike)))))

pub hashed_alike : (x y : Outline) → same_outline x y ≡ true → outline_writes x ≡ outline_writes y
hashed_alike = outlines_alike.fed
