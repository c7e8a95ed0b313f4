-- The number that a store holds is that of the rows of its map. Assumes nothing.
use Rattle.std.proofs.Common.{◌≡◌, ℕ, List, map, length, is_some, sym, ap, ◌∙◌}
use mathlib.Core.Logic.{∥∥₁_elim}
use mathlib.Core.List.{Nodup}
use native.Mathlib.Nat.{ℕ_set}
use lib.ListN.{length-map}
use Rattle.bits.specs.Lists.{any}
use Rattle.bits.specs.Rows.{Bits, same}
use Rattle.bits.proofs.Sets.{NoRepeats, different_by_members, different_no_repeats}
use Rattle.bits.proofs.Each.{no_repeats}
use Rattle.bits.proofs.Members.{same_equality}
use Rattle.store.specs.Content.{Content, Map, Counted, Sound, present}
use Rattle.tree.specs.Tree.{Routes, matched}
use Rattle.tree.specs.LedgerLaws.{Once}
use Rattle.tree.specs.StoreLaws.{hop_at, leaf_entry}
use Rattle.tree.proofs.Stores.{any_prefix, routes_once, routes_held, leaves_held}
use Rattle.tree.proofs.Matched.{matched_once}

-- two lists without repeats of the same rows are equally long
as_long : (xs ys : List Bits) → NoRepeats same xs → NoRepeats same ys → ((q : Bits) → any (same q) xs ≡ any (same q) ys) → length xs ≡ length ys
as_long xs ys once once' alike =
    sym (different_no_repeats same_equality xs once)
    ∙ different_by_members same_equality xs ys (λ q h. sym (alike q) ∙ h) (λ q h. alike q ∙ h)
    ∙ different_no_repeats same_equality ys once'

number : (m : Map) (n : ℕ) (ys : List Bits) → Counted m n → Nodup ys → ((q : Bits) → any (same q) ys ≡ present (m q)) → n ≡ length ys
number m n ys counted once all =
    ∥∥₁_elim counted (ℕ_set _ _) λ (xs, listed).
    sym listed.long ∙ as_long xs ys listed.once (no_repeats same_equality ys once) (λ q. listed.all q ∙ sym (all q))

pub routes_number : (c : Content) (rs : Routes) → Sound c → Once rs → ((p : Bits) → c.map p ≡ hop_at rs p) → c.held ≡ length rs
routes_number c rs sound once told =
    number c.map c.held (map (λ r. r.at) rs) sound.counted (routes_once rs once) (λ q. any_prefix rs q ∙ sym (routes_held rs q) ∙ ap is_some (sym (told q)))
    ∙ length-map rs (λ r. r.at)

pub leaves_number : (c : Content) (rs : Routes) → Sound c → ((q : Bits) → c.map q ≡ leaf_entry rs q) → c.held ≡ length (matched rs)
leaves_number c rs sound told =
    number c.map c.held (matched rs) sound.counted (matched_once rs) (λ q. sym (leaves_held rs q) ∙ ap is_some (sym (told q)))
