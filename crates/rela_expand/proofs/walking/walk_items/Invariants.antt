use Rattle.rela_expand.proofs.WalkItems.{IsWalked}
use Rattle.rela_expand.proofs.walking.walk_items.Given as goal

abbrev pub invariant-loop-item : goal.invariant-loop-item
invariant-loop-item l = IsWalked (record { network = l.locations; level = l.level }) l.items l.item-index l.walk
