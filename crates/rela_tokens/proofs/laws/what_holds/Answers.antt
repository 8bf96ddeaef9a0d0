use Rattle.rela_tokens.proofs.Standing.{all_more, array_holds, deeper, object_holds, text_holds}
use Rattle.rela_tokens.proofs.laws.what_holds.Goals as goal

pub returns-clause-array : goal.returns-clause-array
returns-clause-array c k old mid new ds h closed = array_holds k old mid new ds h closed

pub returns-clause-object : goal.returns-clause-object
returns-clause-object c k old mid new ms h closed = object_holds k old mid new ms h closed

pub returns-clause-text : goal.returns-clause-text
returns-clause-text c k bytes d le h = text_holds k bytes d le h

pub returns-clause-deeper : goal.returns-clause-deeper
returns-clause-deeper c k l old new d le h = deeper k l old new d le h

pub returns-clause-one_more : goal.returns-clause-one_more
returns-clause-one_more c k old mid new ds d h one = all_more k old mid new ds d h one
