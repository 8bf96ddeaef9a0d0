use Rattle.rela_flows.proofs.prefix.reading.Notation.field.Goals as goal

pub returns-in-Dotted : goal.returns-in-Dotted
returns-in-Dotted c n = rw c.in-Dotted.is (c.octet.ensures n)

pub returns-in-Colons : goal.returns-in-Colons
returns-in-Colons c n =
    let read = c.short_numeral.ensures n in
    rw c.in-Colons.is (
      (λ some. let numeral = read.0 some in record { numeral = numeral.0; short = numeral.1; value = numeral.2 }),
      λ group. read.1 (group.numeral, group.short, group.value),
    )
