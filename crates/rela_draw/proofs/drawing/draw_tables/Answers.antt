use Rattle.std.proofs.Common.{Err, ap}
use Rattle.rela_draw.proofs.DrawLaws.{drawn, too_large}
use Rattle.rela_draw.proofs.drawing.draw_tables.Goals as goal

pub returns-in-Ok-clause-drawing : goal.returns-in-Ok-clause-drawing
returns-in-Ok-clause-drawing c = drawn _ _ _ c.in-Ok.text.items c.in-Ok.ensures.text c.in-Ok.ensures.loads c.in-Ok.ensures.few c.in-Ok.ensures.short

pub returns-in-Err-clause-drawing : goal.returns-in-Err-clause-drawing
returns-in-Err-clause-drawing c =
    too_large _ _ _ c.in-Err.error _ c.fib_halt.ensures (λ same. c.in-Err.ensures.too_many (ap (λ e. Err e) same)) (λ same. c.in-Err.ensures.too_long (ap (λ e. Err e) same))
    (λ same. c.in-Err.ensures.few_where_long (ap (λ e. Err e) same))
