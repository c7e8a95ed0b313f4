use Rattle.std.proofs.Common.{rules, ◌≡◌, ap, ◌∙◌, arith, take, length}
use Rattle.std.proofs.iter.runs.Sources.{range_runs_back}
use Rattle.net.specs.Prefix.{row_of}
use Rattle.path.proofs.Downward.{first_down}
use Rattle.path.proofs.shorter.next_shorter.Goals as goal

pub returns : goal.returns
returns g c =
    let m = (g.R.Store.content c.args.routes.now).map in
    let row = row_of c.args.prefix.now in
    let (p, from, first) = c.find_map.ensures.runs in
    let (q, start, ((long, _, same), whole)) = c.rev.ensures.runs p p.seen from in
    let (most, all, _, at) = range_runs_back q q.seen in
    let first_is : q.from.start ≡ 0 = ap (λ r. r.start) start in
    let end_is : q.from.end ≡ length row = ap (λ r. r.end) start ∙ c.len.ensures in
    first_down _ _ (length row) p.len p.at p.whole
    (omega (arith, most, long, first_is, end_is))
    (λ e. omega (arith, all (whole ∙ e), long, first_is, end_is))
    (λ k less. rw (← same k, ← end_is) (at k (omega (arith, long, less))))
    c.find_map.result first (λ k. m (take k row)) (λ x r f' k. search rules)
