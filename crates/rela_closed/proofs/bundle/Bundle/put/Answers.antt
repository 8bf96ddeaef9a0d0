use Rattle.std.proofs.Common.{◌≡◌, Some, length, refl, sym, subst, ◌∙◌, arith}
use Rattle.std.specs.List.{All}
use Rattle.std.specs.Option.{ForSome}
use Rattle.rela_closed.proofs.Placing.{place_within, placed_joined, placed_pushed, placed_still, put_joined, put_pushed, read_sized}
use Rattle.rela_closed.proofs.bundle.Bundle.put.Goals as goal

pub joined-requires : goal.joined-requires
joined-requires g c =
    read_sized g.L.LabelSet.letters c.self.inside.edges.items c.self.inside.places c.self.invariant c.in-Some.place c.args.to (sym (c.in-Some.ensures ∙ c.get.ensures.value))
    (length (g.L.LabelSet.letters c.args.label)) c.index.result.now c.index.ensures
    (subst (All (λ move. ForSome move.label (λ s. length s ≡ length (g.L.LabelSet.letters c.args.label)))) (sym c.self.view_is) c.requires)

pub index-requires : goal.index-requires
index-requires g c =
    let within = place_within g.L.LabelSet.letters c.self.inside.edges.items c.self.inside.places c.self.invariant c.in-Some.place c.args.to (sym (c.in-Some.ensures ∙ c.get.ensures.value)) in
    omega (arith, within, c.self.inside.edges.ok.0)

pub index_mut-requires : goal.index_mut-requires
index_mut-requires g c =
    let within = place_within g.L.LabelSet.letters c.self.inside.edges.items c.self.inside.places c.self.invariant c.in-Some.place c.args.to (sym (c.in-Some.ensures ∙ c.get.ensures.value)) in
    omega (arith, within, c.self.inside.edges.ok.0)

pub invariant_of-self : goal.invariant_of-self
invariant_of-self g c =
    placed_joined g.L.LabelSet.letters c.self.inside.edges.items c.self.inside.places c.self.invariant c.in-Some.place c.args.to (sym (c.in-Some.ensures ∙ c.get.ensures.value)) c.in_ok-label.label

pub returns-in-Some : goal.returns-in-Some
returns-in-Some g c =
    put_joined g.L.LabelSet.letters c.self.inside.edges.items c.self.inside.places c.self.invariant c.in-Some.place c.args.to (sym (c.in-Some.ensures ∙ c.get.ensures.value)) c.in_ok-label.label
    c.args.self.now (g.L.LabelSet.letters c.args.label) c.index.result.now c.self.view_is c.index.ensures c.in_ok-label.ensures.size c.in_ok-label.ensures.either

pub invariant_of-self-in_err-insert : goal.invariant_of-self-in_err-insert
invariant_of-self-in_err-insert g c =
    placed_still g.L.LabelSet.letters c.self.inside.edges.items c.self.inside.places c.self.invariant c.push.new.self.items (record { label = Some c.args.label; to = c.args.to })
    c.in_ok-push.ensures.items c.insert.new.self c.in_err-insert.ensures.err

pub invariant_of-self-2 : goal.invariant_of-self-2
invariant_of-self-2 g c =
    placed_pushed g.L.LabelSet.letters c.self.inside.edges.items c.self.inside.places c.self.invariant c.push.new.self.items (record { label = Some c.args.label; to = c.args.to })
    c.in_ok-push.ensures.items c.insert.new.self c.len-place.result (c.len-place.ensures ∙ c.self.inside.edges.ok.0) c.in_ok-insert.ensures.updates.0

pub returns : goal.returns
returns g c =
    put_pushed g.L.LabelSet.letters c.self.inside.edges.items c.self.inside.places c.self.invariant c.push.new.self.items (record { label = Some c.args.label; to = c.args.to })
    c.in_ok-push.ensures.items c.args.self.now c.args.label c.self.view_is refl
