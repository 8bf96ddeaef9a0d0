use Rattle.std.proofs.Common.{codes, map, refl, sym, string_bytes, ap, ◌∙◌}
use Rattle.std.proofs.lemmas.Result.{err_from_is_err_and}
use Rattle.rela_words.specs.Parts.{parts_of}
use Rattle.rela_words.proofs.Asked.{begin_by, err_asked, named_by, nothing_given, numbers_asked, ok_asked, unnamed_asked}
use Rattle.rela_words.proofs.reading.read_words.Goals as goal

pub returns-in_err-parts-clause-bad : goal.returns-in_err-parts-clause-bad
returns-in_err-parts-clause-bad c =
    let p = err_from_is_err_and c.from_residual.result c.from_residual.ensures.1 in
    rw (p.1, p.2)
    (λ bad. nothing_given (map string_bytes c.args.words.now) (string_bytes c.in-Some.name.now) (map string_bytes c.in-Some.rest.now)
    (ap (map string_bytes) c.in-Some.ensures.cases.0) (c.in_err-parts.ensures.bad bad))

pub returns-in-Check-clause-asked : goal.returns-in-Check-clause-asked
returns-in-Check-clause-asked c =
    ok_asked (map string_bytes c.args.words.now) (string_bytes c.in-Some.name.now) (map string_bytes c.in-Some.rest.now)
    (ap (map string_bytes) c.in-Some.ensures.cases.0)
    (parts_of c.in_ok-parts.parts) c.in_ok-parts.ensures.parts (codes "check") (named_by c.as_str.ensures.value c.in-Some-named.ensures.named c.in-Check.is) c.read_check.result
    c.read_check.ensures.fits

pub returns-in-Check-clause-bad : goal.returns-in-Check-clause-bad
returns-in-Check-clause-bad c =
    err_asked (map string_bytes c.args.words.now) (string_bytes c.in-Some.name.now) (map string_bytes c.in-Some.rest.now)
    (ap (map string_bytes) c.in-Some.ensures.cases.0)
    (parts_of c.in_ok-parts.parts) c.in_ok-parts.ensures.parts (codes "check") (named_by c.as_str.ensures.value c.in-Some-named.ensures.named c.in-Check.is) c.read_check.result
    c.read_check.ensures.bad

pub returns-in-Check-clause-numbers : goal.returns-in-Check-clause-numbers
returns-in-Check-clause-numbers c =
    numbers_asked (map string_bytes c.args.words.now) (string_bytes c.in-Some.name.now) (map string_bytes c.in-Some.rest.now)
    (ap (map string_bytes) c.in-Some.ensures.cases.0)
    (parts_of c.in_ok-parts.parts) c.in_ok-parts.ensures.parts (codes "check") (named_by c.as_str.ensures.value c.in-Some-named.ensures.named c.in-Check.is) c.read_check.result
    c.read_check.ensures.fits

pub returns-in-Fmt-clause-asked : goal.returns-in-Fmt-clause-asked
returns-in-Fmt-clause-asked c =
    ok_asked (map string_bytes c.args.words.now) (string_bytes c.in-Some.name.now) (map string_bytes c.in-Some.rest.now)
    (ap (map string_bytes) c.in-Some.ensures.cases.0)
    (parts_of c.in_ok-parts.parts) c.in_ok-parts.ensures.parts (codes "fmt") (named_by c.as_str.ensures.value c.in-Some-named.ensures.named c.in-Fmt.is) c.read_fmt.result
    c.read_fmt.ensures.fits

pub returns-in-Fmt-clause-bad : goal.returns-in-Fmt-clause-bad
returns-in-Fmt-clause-bad c =
    err_asked (map string_bytes c.args.words.now) (string_bytes c.in-Some.name.now) (map string_bytes c.in-Some.rest.now)
    (ap (map string_bytes) c.in-Some.ensures.cases.0)
    (parts_of c.in_ok-parts.parts) c.in_ok-parts.ensures.parts (codes "fmt") (named_by c.as_str.ensures.value c.in-Some-named.ensures.named c.in-Fmt.is) c.read_fmt.result
    c.read_fmt.ensures.bad

pub returns-in-Fmt-clause-numbers : goal.returns-in-Fmt-clause-numbers
returns-in-Fmt-clause-numbers c =
    numbers_asked (map string_bytes c.args.words.now) (string_bytes c.in-Some.name.now) (map string_bytes c.in-Some.rest.now)
    (ap (map string_bytes) c.in-Some.ensures.cases.0)
    (parts_of c.in_ok-parts.parts) c.in_ok-parts.ensures.parts (codes "fmt") (named_by c.as_str.ensures.value c.in-Some-named.ensures.named c.in-Fmt.is) c.read_fmt.result
    c.read_fmt.ensures.fits

pub returns-in-Fib-clause-asked : goal.returns-in-Fib-clause-asked
returns-in-Fib-clause-asked c =
    ok_asked (map string_bytes c.args.words.now) (string_bytes c.in-Some.name.now) (map string_bytes c.in-Some.rest.now)
    (ap (map string_bytes) c.in-Some.ensures.cases.0)
    (parts_of c.in_ok-parts.parts) c.in_ok-parts.ensures.parts (codes "fib") (named_by c.as_str.ensures.value c.in-Some-named.ensures.named c.in-Fib.is) c.read_fib.result
    c.read_fib.ensures.fits

pub returns-in-Fib-clause-bad : goal.returns-in-Fib-clause-bad
returns-in-Fib-clause-bad c =
    err_asked (map string_bytes c.args.words.now) (string_bytes c.in-Some.name.now) (map string_bytes c.in-Some.rest.now)
    (ap (map string_bytes) c.in-Some.ensures.cases.0)
    (parts_of c.in_ok-parts.parts) c.in_ok-parts.ensures.parts (codes "fib") (named_by c.as_str.ensures.value c.in-Some-named.ensures.named c.in-Fib.is) c.read_fib.result
    c.read_fib.ensures.bad

pub returns-in-Fib-clause-numbers : goal.returns-in-Fib-clause-numbers
returns-in-Fib-clause-numbers c =
    numbers_asked (map string_bytes c.args.words.now) (string_bytes c.in-Some.name.now) (map string_bytes c.in-Some.rest.now)
    (ap (map string_bytes) c.in-Some.ensures.cases.0)
    (parts_of c.in_ok-parts.parts) c.in_ok-parts.ensures.parts (codes "fib") (named_by c.as_str.ensures.value c.in-Some-named.ensures.named c.in-Fib.is) c.read_fib.result
    c.read_fib.ensures.fits

pub returns-in-Zone-clause-asked : goal.returns-in-Zone-clause-asked
returns-in-Zone-clause-asked c =
    ok_asked (map string_bytes c.args.words.now) (string_bytes c.in-Some.name.now) (map string_bytes c.in-Some.rest.now)
    (ap (map string_bytes) c.in-Some.ensures.cases.0)
    (parts_of c.in_ok-parts.parts) c.in_ok-parts.ensures.parts (codes "zone") (named_by c.as_str.ensures.value c.in-Some-named.ensures.named c.in-Zone.is) c.read_zone.result
    c.read_zone.ensures.fits

pub returns-in-Zone-clause-bad : goal.returns-in-Zone-clause-bad
returns-in-Zone-clause-bad c =
    err_asked (map string_bytes c.args.words.now) (string_bytes c.in-Some.name.now) (map string_bytes c.in-Some.rest.now)
    (ap (map string_bytes) c.in-Some.ensures.cases.0)
    (parts_of c.in_ok-parts.parts) c.in_ok-parts.ensures.parts (codes "zone") (named_by c.as_str.ensures.value c.in-Some-named.ensures.named c.in-Zone.is) c.read_zone.result
    c.read_zone.ensures.bad

pub returns-in-Zone-clause-numbers : goal.returns-in-Zone-clause-numbers
returns-in-Zone-clause-numbers c =
    numbers_asked (map string_bytes c.args.words.now) (string_bytes c.in-Some.name.now) (map string_bytes c.in-Some.rest.now)
    (ap (map string_bytes) c.in-Some.ensures.cases.0)
    (parts_of c.in_ok-parts.parts) c.in_ok-parts.ensures.parts (codes "zone") (named_by c.as_str.ensures.value c.in-Some-named.ensures.named c.in-Zone.is) c.read_zone.result
    c.read_zone.ensures.fits

pub returns-in-Rir-clause-asked : goal.returns-in-Rir-clause-asked
returns-in-Rir-clause-asked c =
    ok_asked (map string_bytes c.args.words.now) (string_bytes c.in-Some.name.now) (map string_bytes c.in-Some.rest.now)
    (ap (map string_bytes) c.in-Some.ensures.cases.0)
    (parts_of c.in_ok-parts.parts) c.in_ok-parts.ensures.parts (codes "rir") (named_by c.as_str.ensures.value c.in-Some-named.ensures.named c.in-Rir.is) c.read_rir.result
    c.read_rir.ensures.fits

pub returns-in-Rir-clause-bad : goal.returns-in-Rir-clause-bad
returns-in-Rir-clause-bad c =
    err_asked (map string_bytes c.args.words.now) (string_bytes c.in-Some.name.now) (map string_bytes c.in-Some.rest.now)
    (ap (map string_bytes) c.in-Some.ensures.cases.0)
    (parts_of c.in_ok-parts.parts) c.in_ok-parts.ensures.parts (codes "rir") (named_by c.as_str.ensures.value c.in-Some-named.ensures.named c.in-Rir.is) c.read_rir.result
    c.read_rir.ensures.bad

pub returns-in-Rir-clause-numbers : goal.returns-in-Rir-clause-numbers
returns-in-Rir-clause-numbers c =
    numbers_asked (map string_bytes c.args.words.now) (string_bytes c.in-Some.name.now) (map string_bytes c.in-Some.rest.now)
    (ap (map string_bytes) c.in-Some.ensures.cases.0)
    (parts_of c.in_ok-parts.parts) c.in_ok-parts.ensures.parts (codes "rir") (named_by c.as_str.ensures.value c.in-Some-named.ensures.named c.in-Rir.is) c.read_rir.result
    c.read_rir.ensures.fits

pub returns-clause-asked : goal.returns-clause-asked
returns-clause-asked c =
    ok_asked (map string_bytes c.args.words.now) (string_bytes c.in-Some.name.now) (map string_bytes c.in-Some.rest.now)
    (ap (map string_bytes) c.in-Some.ensures.cases.0)
    (parts_of c.in_ok-parts.parts) c.in_ok-parts.ensures.parts (codes "demo") (named_by c.as_str.ensures.value c.in-Some-named.ensures.named c.in-Demo.is) c.read_demo.result
    c.read_demo.ensures.fits

pub returns-clause-bad : goal.returns-clause-bad
returns-clause-bad c =
    err_asked (map string_bytes c.args.words.now) (string_bytes c.in-Some.name.now) (map string_bytes c.in-Some.rest.now)
    (ap (map string_bytes) c.in-Some.ensures.cases.0)
    (parts_of c.in_ok-parts.parts) c.in_ok-parts.ensures.parts (codes "demo") (named_by c.as_str.ensures.value c.in-Some-named.ensures.named c.in-Demo.is) c.read_demo.result
    c.read_demo.ensures.bad

pub returns-clause-numbers : goal.returns-clause-numbers
returns-clause-numbers c =
    numbers_asked (map string_bytes c.args.words.now) (string_bytes c.in-Some.name.now) (map string_bytes c.in-Some.rest.now)
    (ap (map string_bytes) c.in-Some.ensures.cases.0)
    (parts_of c.in_ok-parts.parts) c.in_ok-parts.ensures.parts (codes "demo") (named_by c.as_str.ensures.value c.in-Some-named.ensures.named c.in-Demo.is) c.read_demo.result
    c.read_demo.ensures.fits

pub returns-in-Audit-clause-asked : goal.returns-in-Audit-clause-asked
returns-in-Audit-clause-asked c =
    ok_asked (map string_bytes c.args.words.now) (string_bytes c.in-Some.name.now) (map string_bytes c.in-Some.rest.now)
    (ap (map string_bytes) c.in-Some.ensures.cases.0)
    (parts_of c.in_ok-parts.parts) c.in_ok-parts.ensures.parts (codes "audit") (named_by c.as_str.ensures.value c.in-Some-named.ensures.named c.in-Audit.is) c.read_audit.result
    c.read_audit.ensures.fits

pub returns-in-Audit-clause-bad : goal.returns-in-Audit-clause-bad
returns-in-Audit-clause-bad c =
    err_asked (map string_bytes c.args.words.now) (string_bytes c.in-Some.name.now) (map string_bytes c.in-Some.rest.now)
    (ap (map string_bytes) c.in-Some.ensures.cases.0)
    (parts_of c.in_ok-parts.parts) c.in_ok-parts.ensures.parts (codes "audit") (named_by c.as_str.ensures.value c.in-Some-named.ensures.named c.in-Audit.is) c.read_audit.result
    c.read_audit.ensures.bad

pub returns-in-Audit-clause-numbers : goal.returns-in-Audit-clause-numbers
returns-in-Audit-clause-numbers c =
    numbers_asked (map string_bytes c.args.words.now) (string_bytes c.in-Some.name.now) (map string_bytes c.in-Some.rest.now)
    (ap (map string_bytes) c.in-Some.ensures.cases.0)
    (parts_of c.in_ok-parts.parts) c.in_ok-parts.ensures.parts (codes "audit") (named_by c.as_str.ensures.value c.in-Some-named.ensures.named c.in-Audit.is) c.read_audit.result
    c.read_audit.ensures.fits

pub returns-in-Certify-clause-asked : goal.returns-in-Certify-clause-asked
returns-in-Certify-clause-asked c =
    ok_asked (map string_bytes c.args.words.now) (string_bytes c.in-Some.name.now) (map string_bytes c.in-Some.rest.now)
    (ap (map string_bytes) c.in-Some.ensures.cases.0)
    (parts_of c.in_ok-parts.parts) c.in_ok-parts.ensures.parts (codes "certify") (named_by c.as_str.ensures.value c.in-Some-named.ensures.named c.in-Certify.is) c.read_certify.result
    c.read_certify.ensures.fits

pub returns-in-Certify-clause-bad : goal.returns-in-Certify-clause-bad
returns-in-Certify-clause-bad c =
    err_asked (map string_bytes c.args.words.now) (string_bytes c.in-Some.name.now) (map string_bytes c.in-Some.rest.now)
    (ap (map string_bytes) c.in-Some.ensures.cases.0)
    (parts_of c.in_ok-parts.parts) c.in_ok-parts.ensures.parts (codes "certify") (named_by c.as_str.ensures.value c.in-Some-named.ensures.named c.in-Certify.is) c.read_certify.result
    c.read_certify.ensures.bad

pub returns-in-Certify-clause-numbers : goal.returns-in-Certify-clause-numbers
returns-in-Certify-clause-numbers c =
    numbers_asked (map string_bytes c.args.words.now) (string_bytes c.in-Some.name.now) (map string_bytes c.in-Some.rest.now)
    (ap (map string_bytes) c.in-Some.ensures.cases.0)
    (parts_of c.in_ok-parts.parts) c.in_ok-parts.ensures.parts (codes "certify") (named_by c.as_str.ensures.value c.in-Some-named.ensures.named c.in-Certify.is) c.read_certify.result
    c.read_certify.ensures.fits

pub returns-in_default-named-clause-bad : goal.returns-in_default-named-clause-bad
returns-in_default-named-clause-bad c =
    λ _.
    unnamed_asked (map string_bytes c.args.words.now) (string_bytes c.in-Some.name.now) (map string_bytes c.in-Some.rest.now)
    (ap (map string_bytes) c.in-Some.ensures.cases.0)
    (λ verb same. c.in_default-named.ensures.none refl verb (c.as_str.ensures.value ∙ same))

pub returns-in_err-parts-clause-memory : goal.returns-in_err-parts-clause-memory
returns-in_err-parts-clause-memory c =
    λ _.
    begin_by (map string_bytes c.args.words.now) (string_bytes c.in-Some.name.now) (map string_bytes c.in-Some.rest.now) c.in-Some-named.verb
    (ap (map string_bytes) c.in-Some.ensures.cases.0) (sym c.as_str.ensures.value ∙ c.in-Some-named.ensures.named)

pub returns-in-Check-clause-memory : goal.returns-in-Check-clause-memory
returns-in-Check-clause-memory c =
    λ _.
    begin_by (map string_bytes c.args.words.now) (string_bytes c.in-Some.name.now) (map string_bytes c.in-Some.rest.now) c.in-Some-named.verb
    (ap (map string_bytes) c.in-Some.ensures.cases.0) (sym c.as_str.ensures.value ∙ c.in-Some-named.ensures.named)

pub returns-in-Fmt-clause-memory : goal.returns-in-Fmt-clause-memory
returns-in-Fmt-clause-memory c =
    λ _.
    begin_by (map string_bytes c.args.words.now) (string_bytes c.in-Some.name.now) (map string_bytes c.in-Some.rest.now) c.in-Some-named.verb
    (ap (map string_bytes) c.in-Some.ensures.cases.0) (sym c.as_str.ensures.value ∙ c.in-Some-named.ensures.named)

pub returns-in-Fib-clause-memory : goal.returns-in-Fib-clause-memory
returns-in-Fib-clause-memory c =
    λ _.
    begin_by (map string_bytes c.args.words.now) (string_bytes c.in-Some.name.now) (map string_bytes c.in-Some.rest.now) c.in-Some-named.verb
    (ap (map string_bytes) c.in-Some.ensures.cases.0) (sym c.as_str.ensures.value ∙ c.in-Some-named.ensures.named)

pub returns-in-Zone-clause-memory : goal.returns-in-Zone-clause-memory
returns-in-Zone-clause-memory c =
    λ _.
    begin_by (map string_bytes c.args.words.now) (string_bytes c.in-Some.name.now) (map string_bytes c.in-Some.rest.now) c.in-Some-named.verb
    (ap (map string_bytes) c.in-Some.ensures.cases.0) (sym c.as_str.ensures.value ∙ c.in-Some-named.ensures.named)

pub returns-in-Rir-clause-memory : goal.returns-in-Rir-clause-memory
returns-in-Rir-clause-memory c =
    λ _.
    begin_by (map string_bytes c.args.words.now) (string_bytes c.in-Some.name.now) (map string_bytes c.in-Some.rest.now) c.in-Some-named.verb
    (ap (map string_bytes) c.in-Some.ensures.cases.0) (sym c.as_str.ensures.value ∙ c.in-Some-named.ensures.named)

pub returns-clause-memory : goal.returns-clause-memory
returns-clause-memory c =
    λ _.
    begin_by (map string_bytes c.args.words.now) (string_bytes c.in-Some.name.now) (map string_bytes c.in-Some.rest.now) c.in-Some-named.verb
    (ap (map string_bytes) c.in-Some.ensures.cases.0) (sym c.as_str.ensures.value ∙ c.in-Some-named.ensures.named)

pub returns-in-Audit-clause-memory : goal.returns-in-Audit-clause-memory
returns-in-Audit-clause-memory c =
    λ _.
    begin_by (map string_bytes c.args.words.now) (string_bytes c.in-Some.name.now) (map string_bytes c.in-Some.rest.now) c.in-Some-named.verb
    (ap (map string_bytes) c.in-Some.ensures.cases.0) (sym c.as_str.ensures.value ∙ c.in-Some-named.ensures.named)

pub returns-in-Certify-clause-memory : goal.returns-in-Certify-clause-memory
returns-in-Certify-clause-memory c =
    λ _.
    begin_by (map string_bytes c.args.words.now) (string_bytes c.in-Some.name.now) (map string_bytes c.in-Some.rest.now) c.in-Some-named.verb
    (ap (map string_bytes) c.in-Some.ensures.cases.0) (sym c.as_str.ensures.value ∙ c.in-Some-named.ensures.named)
