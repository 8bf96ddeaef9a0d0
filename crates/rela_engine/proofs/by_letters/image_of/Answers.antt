use Rattle.std.specs.Option.{ForSome}
use Rattle.std.proofs.lemmas.Result.{IfOk-weaker}
use Rattle.rela_engine.specs.LetterImages.{IsImageUnder}
use Rattle.rela_engine.proofs.LetterImages.{image_alike}
use Rattle.rela_engine.proofs.by_letters.image_of.Goals as goal

pub returns-clause-image : goal.returns-clause-image
returns-clause-image c =
    let t = c.letters.result.now in
    let paths = c.args.paths.now in
    let parents = c.args.parents.now in
    IfOk-weaker c.letter_image.result
    (λ found. ForSome found (IsImageUnder parents paths t))
    (λ found. ForSome found (IsImageUnder parents paths c.args.relation.now.small))
    (λ found each image is. image_alike parents paths t c.args.relation.now.small image c.letters.ensures (each image is))
    c.letter_image.ensures.language
