-- Flows that no file can tell apart have the same classes.
use Rattle.std.proofs.Common.{◌≡◌, List, [], ◌∷◌, map, refl}
use Rattle.rela_same_flows.specs.SameFlows.{SamePairs}
use Rattle.rela_snapshot.specs.declared.pairing.FlowPair.{FlowPair}

pub classes_same : (ps qs : List FlowPair) → SamePairs ps qs → map (λ (p : FlowPair). p.class) ps ≡ map (λ (p : FlowPair). p.class) qs
classes_same [] [] same = refl
classes_same [] (q ∷ qs) same = absurd same
classes_same (p ∷ ps) [] same = absurd same
classes_same (p ∷ ps) (q ∷ qs) same =
    let one : p.class ≡ q.class = same.0.class in
    let more : map (λ (p : FlowPair). p.class) ps ≡ map (λ (p : FlowPair). p.class) qs = classes_same ps qs same.1 in
    cc
