use Rattle.std.proofs.Common.{◌∙◌, ◌+◌, ◌<◌, ap, length, map}
use Rattle.std.proofs.lemmas.List.{drop_more}
use Rattle.rela_locations.specs.Network.{alphabet_of}
use Rattle.rela_names.specs.declared.level.Level.TheVariants.{Interface}
use Rattle.rela_tokens.specs.Pieces.{text}
use Rattle.rela_tables.proofs.Kept.{All-more}
use Rattle.rela_tables.proofs.PlainLaws.{hop_taken, hops_more}
use Rattle.rela_tables.proofs.plain_route.hops_at.Goals as goal

pub loop-name-preserved : goal.loop-name-preserved
loop-name-preserved c =
    let names = c.args.names.now in
    let i = c.loop-name.name-index in
    let one = c.as_bytes.result in
    let next = ap (map text) (drop_more names i one c.loop-name-test.true) in
    let hop = hop_taken c.args.locations.now c.args.row names i one _ c.as_bytes.result.now _ c.loop-name-test.true c.as_bytes.ensures.value c.in_ok-hop.ensures.symbol in
    record {
      hops = hops_more c.args.locations.now c.args.row _ _ _ _ _ _ _ next hop c.in_ok-push.ensures.items c.loop-name.invariant.hops;
      len = c.in_ok-push.ensures.len ∙ ap (λ n. n + 1) c.loop-name.invariant.len;
      located = All-more (λ symbol. symbol < length (alphabet_of Interface c.args.locations.now)) _ _ _ c.in_ok-push.ensures.items c.loop-name.invariant.located c.in_ok-hop.ensures.located;
    }
