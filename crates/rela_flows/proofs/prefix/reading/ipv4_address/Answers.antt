use Rattle.std.proofs.Common.{◌^◌, ◌<◌, refl, sym, ap, subst, arith}
use Rattle.rela_flows.proofs.Exactly.{refused, given}
use Rattle.rela_flows.proofs.Addresses.{write_fits, ipv4_of_write, ipv4_refused, ipv4_only}
use Rattle.rela_flows.specs.declared.prefix.reading.Notation.TheVariants.{Dotted}
use Rattle.rela_flows.proofs.prefix.reading.ipv4_address.Goals as goal

pub returns-in_err-octets : goal.returns-in_err-octets
returns-in_err-octets c = refused _ _ c.from_residual.ensures (ipv4_refused c.args.text.now c.in_err-octets.ensures)

pub overflow_cast-result : goal.overflow_cast-result
overflow_cast-result c =
    let octets = c.in_ok-octets.octets in
    let fits : octets.number < (2 ^ 8) ^ octets.count = write_fits Dotted c.args.text.now octets ((c.in_ok-octets.ensures octets).0 refl) in
    let four : octets.number < (2 ^ 8) ^ 4 = subst (λ k. octets.number < (2 ^ 8) ^ k) c.if-octets-eq4.true fits in
    omega arith

pub returns-then-octets-eq4 : goal.returns-then-octets-eq4
returns-then-octets-eq4 c =
    let octets = c.in_ok-octets.octets in
    given _ _ octets.number refl
    (ipv4_of_write c.args.text.now octets ((c.in_ok-octets.ensures octets).0 refl) c.if-octets-eq4.true)
    (λ a is. ap (λ f. f.number) (sym (ipv4_only c.args.text.now octets c.in_ok-octets.ensures a is)))

pub returns-else-octets-eq4 : goal.returns-else-octets-eq4
returns-else-octets-eq4 c = refused _ _ refl (λ a is.
    c.if-octets-eq4.false (ap (λ f. f.count) (ipv4_only c.args.text.now c.in_ok-octets.octets c.in_ok-octets.ensures a is)))
