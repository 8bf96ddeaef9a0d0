use Rattle.std.proofs.Common.{◌≡◌, ◌++◌, [], ◌∷◌, length, sym, ap, ◌∙◌, subst, arith, length-append}
use Rattle.rela_pairs.specs.Parting.{parts, Rises}
use Rattle.rela_pairs.proofs.Parting.{rises_more, parts_more}
use Rattle.rela_pairs.proofs.lists.Lists.push.Goals as goal

pub invariant_of-self-in_err-extend_from_slice : goal.invariant_of-self-in_err-extend_from_slice
invariant_of-self-in_err-extend_from_slice c =
    let numbers = c.self.inside.numbers.items in
    let starts = c.self.inside.starts.items in
    let all : c.len.result ≡ length numbers = c.len.ensures ∙ c.self.inside.numbers.ok.0 in
    let pushed : c.push.new.self.items ≡ starts ++ length numbers ∷ [] = c.in_ok-push.ensures.items ∙ ap (λ n. starts ++ n ∷ []) all in
    subst (Rises (length c.extend_from_slice.new.self.items)) (sym pushed)
    (rises_more (length numbers) (length c.extend_from_slice.new.self.items) starts c.self.invariant (omega (arith, ap length c.in_err-extend_from_slice.ensures.items)))

pub invariant_of-self-2 : goal.invariant_of-self-2
invariant_of-self-2 c =
    let numbers = c.self.inside.numbers.items in
    let starts = c.self.inside.starts.items in
    let all : c.len.result ≡ length numbers = c.len.ensures ∙ c.self.inside.numbers.ok.0 in
    let pushed : c.push.new.self.items ≡ starts ++ length numbers ∷ [] = c.in_ok-push.ensures.items ∙ ap (λ n. starts ++ n ∷ []) all in
    subst (Rises (length c.extend_from_slice.new.self.items)) (sym pushed)
    (rises_more (length numbers) (length c.extend_from_slice.new.self.items) starts c.self.invariant
    (omega (arith, ap length c.in_ok-extend_from_slice.ensures.items, length-append numbers c.args.list.now)))

pub returns : goal.returns
returns c =
    let numbers = c.self.inside.numbers.items in
    let starts = c.self.inside.starts.items in
    let list = c.args.list.now in
    let all : c.len.result ≡ length numbers = c.len.ensures ∙ c.self.inside.numbers.ok.0 in
    let pushed : c.push.new.self.items ≡ starts ++ length numbers ∷ [] = c.in_ok-push.ensures.items ∙ ap (λ n. starts ++ n ∷ []) all in
    let extended : c.extend_from_slice.new.self.items ≡ numbers ++ list = c.in_ok-extend_from_slice.ensures.items in
    (λ i. parts (extended i) (pushed i)) ∙ parts_more numbers list starts c.self.invariant ∙ ap (λ l. l ++ list ∷ []) c.self.view_is
