use Rattle.rela_engine.proofs.AlikeBodies.{alike_then, alike_else, by_first, by_second}
use Rattle.rela_engine.proofs.sides.+treats_sides_alike.Goals as goal

pub returns-then-treats_sides_alike : goal.returns-then-treats_sides_alike
returns-then-treats_sides_alike t c =
    by_second _ c.in-Then.a c.in-Then.b _ _ _ (alike_then _ c.in-Then.a c.in-Then.b c.in-Then.is) c.get.ensures c.get-then-treats_sides_alike.ensures
    (c.treats_sides_alike.ensures.0 c.if-treats_sides_alike.true) c.treats_sides_alike-then-treats_sides_alike.ensures

pub returns-else-treats_sides_alike : goal.returns-else-treats_sides_alike
returns-else-treats_sides_alike t c =
    by_first _ c.in-Then.a c.in-Then.b _ _ (alike_then _ c.in-Then.a c.in-Then.b c.in-Then.is) c.get.ensures c.if-treats_sides_alike.false c.treats_sides_alike.ensures

pub returns-then-treats_sides_alike-2 : goal.returns-then-treats_sides_alike-2
returns-then-treats_sides_alike-2 t c =
    by_second _ c.in-Else.a c.in-Else.b _ _ _ (alike_else _ c.in-Else.a c.in-Else.b c.in-Else.is) c.get-in-Else.ensures c.get-then-treats_sides_alike-2.ensures
    (c.treats_sides_alike-in-Else.ensures.0 c.if-treats_sides_alike-2.true) c.treats_sides_alike-then-treats_sides_alike-2.ensures

pub returns-else-treats_sides_alike-2 : goal.returns-else-treats_sides_alike-2
returns-else-treats_sides_alike-2 t c =
    by_first _ c.in-Else.a c.in-Else.b _ _ (alike_else _ c.in-Else.a c.in-Else.b c.in-Else.is) c.get-in-Else.ensures c.if-treats_sides_alike-2.false c.treats_sides_alike-in-Else.ensures
