-- Whatever was read can be brought to an end, and runs go on one after another.
use Rattle.std.proofs.Common.{◌≡◌, ℕ, zero, suc, List, [], ◌∷◌, ◌++◌, refl, arith}
use Rattle.rela_certfile.specs.declared.item.Item.{Item}
use Rattle.rela_certfile.specs.declared.item.Item.TheVariants.{Complement, Images}
use Rattle.rela_certfile.specs.declared.item.State.{State}
use Rattle.rela_certfile.specs.Layout.{Layout}
use Rattle.rela_certfile.specs.Items.{Allowed, after, after_all, Runs}

pub runs_on : (l : Layout) (state : State) (a b : List Item) → Runs l state a → Runs l (after_all l state a) b → Runs l state (a ++ b)
runs_on l state [] b first then = then
runs_on l state (item ∷ a) b first then = (first.0, runs_on l (after l state item) a b first.1 then)

pub runs_from : (l : Layout) (state : State) (a b : List Item) → Runs l state (a ++ b) → Runs l (after_all l state a) b
runs_from l state [] b runs = runs
runs_from l state (item ∷ a) b runs = runs_from l (after l state item) a b runs.1

pub after_both : (l : Layout) (state : State) (a b : List Item) → after_all l state (a ++ b) ≡ after_all l (after_all l state a) b
after_both l state [] b = refl
after_both l state (item ∷ a) b = after_both l (after l state item) a b

pub record Closes (l : Layout) (state : State) (items : List Item) : Type 0 where
  pub runs : Runs l state items
  pub whole : (after_all l state items).heads ≡ 0

closes_next : (l : Layout) (state : State) (item : Item) (items : List Item) → Allowed l state item → Closes l (after l state item) items → Closes l state (item ∷ items)
closes_next l state item items allowed closes = record { runs = (allowed, closes.runs); whole = closes.whole }

-- the blocks that are missing, without words
pub closing : (h : ℕ) (l : Layout) (state : State) → state.heads ≡ h → (items : List Item) × Closes l state items
closing zero l state none = ([], record { runs = tt; whole = none })
closing (suc zero) l state one =
    let last : state.heads ≡ 1 = one in
    (Images ∷ [], record { runs = (last, tt); whole = refl })
closing (suc (suc h)) l state more =
    let fewer : (after l state Complement).heads ≡ suc h = omega arith in
    let rest : (items : List Item) × Closes l (after l state Complement) items = closing (suc h) l (after l state Complement) fewer in
    (Complement ∷ rest.0, closes_next l state Complement rest.0 (omega arith) rest.1)
