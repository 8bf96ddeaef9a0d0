use Rattle.std.proofs.Common.{subst}
use Rattle.std.specs.Option.{ForSome}
use Rattle.std.specs.Result.{IfOk}
use Rattle.rela_letter_image.specs.Coarse.{coarse_of}
use Rattle.rela_letter_image.specs.Needs.{AreAhead}
use Rattle.rela_letter_image.proofs.product.ahead_where_needed.Goals as goal

pub returns : goal.returns
returns c =
    subst (λ n. IfOk c.ahead_of.result (λ found. ForSome found (λ ahead. AreAhead (coarse_of n c.args.coarse.now) c.args.paths.now ahead.items))) c.letters.ensures.letters c.ahead_of.ensures
