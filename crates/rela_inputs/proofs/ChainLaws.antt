-- What the law on steps says, for all values and steps.
use Rattle.std.proofs.Common.{Bool, sym, subst}
use Rattle.rela_inputs.specs.Chained.{Chain, Chained}
use Rattle.rela_inputs.proofs.GivenLaws.{continued, read_given, stopped}

pub chained : (told steady : Bool) (chain : Chain) → Chained told steady chain
chained told steady chain = record {
  stopped = stopped told steady chain.Same chain.Alike chain.Step chain.Next;
  settled = λ value result alone given next.
      continued told steady chain.Same chain.Alike chain.Step chain.Next value result given next.told_by
      (λ t other same x steps. next.alone t x (subst (λ v. chain.Next v x) (sym (alone other same)) steps));
  continued = continued told steady chain.Same chain.Alike chain.Step chain.Next;
  first_read = read_given told steady chain.Same chain.Step;
  next_read = λ value. read_given told steady chain.Alike (chain.Next value);
}
