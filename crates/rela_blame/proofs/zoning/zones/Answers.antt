use Rattle.std.proofs.Common.{◌≡◌, ◌∙◌, All, ap, length, subst, sym}
use Rattle.rela_blame.specs.Zones.{HasClaim, IsZoneOf, checks_of}
use Rattle.rela_blame.proofs.Zoned.{asks, is_zone_of, no_zone, zone_more}
use Rattle.rela_blame.proofs.zoning.zones.Goals as goal
use Rattle.rela_blame.proofs.zoning.zones.Goals.{in-Some+in_ok-zone_of+in_ok-push, in_default}

pub zone_of-requires-clause-claimed : goal.zone_of-requires-clause-claimed
zone_of-requires-clause-claimed c =
    let n = length c.args.alphabet.now in
    asks c.as_slice.result.now c.args.checks.now n (ap checks_of c.as_slice.ensures.value ∙ c.in_ok-branches.ensures.checks)
    (subst (All (λ b. b.locations ≡ n)) (sym c.as_slice.ensures.value) c.in_ok-branches.ensures.locations) c.row-item.result c.in-Some.check.now c.in-Some.source.now (sym c.in-Some.ensures)
    (subst (HasClaim n c.args.checks.now) (sym c.row-item.is) (c.requires.claimed c.loop-row.row-index c.row-item.result c.loop-row-test.true))

pub loop-row-preserved : goal.loop-row-preserved
loop-row-preserved c =
    let file = c.args.file.now in
    let tokens = c.args.tokens.now in
    let checks = c.args.checks.now in
    let n = length c.args.alphabet.now in
    elim c.match-source_of.branch [
      | in-Some+in_ok-zone_of+in_ok-push w ↦ record {
        zones = rw w.zones-is
            (zone_more (IsZoneOf file tokens n checks) c.args.rows.now c.loop-row.zones.items c.loop-row.row-index c.row-item.result c.loop-row-test.true c.row-item.is c.loop-row.invariant.zones
            w.push.new.self.items w.in_ok-zone_of.field-0 w.in-Some.check.now w.in-Some.source.now (sym w.in-Some.ensures) w.in_ok-push.ensures.items
            (is_zone_of c.as_slice.result.now checks n (ap checks_of c.as_slice.ensures.value ∙ c.in_ok-branches.ensures.checks)
            (subst (All (λ b. b.locations ≡ n)) (sym c.as_slice.ensures.value) c.in_ok-branches.ensures.locations) file tokens c.row-item.result w.in-Some.check.now w.in-Some.source.now w.in_ok-zone_of.field-0 (sym w.in-Some.ensures) w.in_ok-zone_of.ensures.zone));
        offsets = rw w.offsets-is w.in_ok-zone_of.ensures.offsets;
      }
      | in_default w ↦ record {
        zones = rw w.zones-is
            (no_zone (IsZoneOf file tokens n checks) c.args.rows.now c.loop-row.zones.items c.loop-row.row-index c.row-item.result c.loop-row-test.true c.row-item.is c.loop-row.invariant.zones
            (sym w.in_default.ensures));
        offsets = rw w.offsets-is c.loop-row.invariant.offsets;
      }
    ]
