use Rattle.rela_cert.proofs.AlikeTerms.{of_else, of_then, of_unit}
use Rattle.rela_cert.proofs.sides.+treats_sides_alike.Goals as goal

pub returns-in-Unit : goal.returns-in-Unit
returns-in-Unit t c told = of_unit _ _ c.in-Unit.modifier c.in-Unit.is (c.asks_no_change.ensures told)

pub returns-then-treats_sides_alike : goal.returns-then-treats_sides_alike
returns-then-treats_sides_alike t c told =
    of_then _ c.in-Then.a c.in-Then.b _ _ c.get.ensures c.get-then-treats_sides_alike.ensures (c.treats_sides_alike.ensures c.if-treats_sides_alike.true)
    (c.treats_sides_alike-then-treats_sides_alike.ensures told) c.in-Then.is

pub returns-then-treats_sides_alike-2 : goal.returns-then-treats_sides_alike-2
returns-then-treats_sides_alike-2 t c told =
    of_else _ c.in-Else.a c.in-Else.b _ _ c.get-in-Else.ensures c.get-then-treats_sides_alike-2.ensures (c.treats_sides_alike-in-Else.ensures c.if-treats_sides_alike-2.true)
    (c.treats_sides_alike-then-treats_sides_alike-2.ensures told) c.in-Else.is
