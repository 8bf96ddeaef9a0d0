use Rattle.std.proofs.lemmas.Result.{IfOk-weaker}
use Rattle.rela_cert.proofs.flow_images.refined.Goals as goal

pub returns-then-states : goal.returns-then-states
returns-then-states c = IfOk-weaker c.refined_whole.result _ _ (λ t told. told c.args.words.now) c.refined_whole.ensures
