use Rattle.std.proofs.Common.{inl, inr}
use Rattle.records.specs.Lent.{mark_of}
use Rattle.records.proofs.Cutting.{cut_empty, cut_headless, cut_long, cut_whole}
use Rattle.records.proofs.take.take_record.Goals as goal
use Rattle.records.proofs.take.take_record.Goals.{then-mark-lt6-via-then-mark-lt6, then-mark-lt6-via-else-mark-lt6+then-mark}

pub returns-then-is_empty-clause-is : goal.returns-then-is_empty-clause-is
returns-then-is_empty-clause-is c = cut_empty c.args.bytes.now c.if-is_empty.ensures

pub returns-in_default-clause-is : goal.returns-in_default-clause-is
returns-in_default-clause-is c = cut_headless c.args.bytes.now c.if-is_empty.ensures c.in_default.ensures

pub returns-then-mark-lt6-clause-is : goal.returns-then-mark-lt6-clause-is
returns-then-mark-lt6-clause-is c =
    cut_long c.args.bytes.now (mark_of c.in-Some.mark) c.if-is_empty.ensures c.in-Some.ensures
    (elim c.then-mark-lt6.branch [ then-mark-lt6-via-then-mark-lt6 w ↦ inl w.if-mark-lt6.true | then-mark-lt6-via-else-mark-lt6+then-mark w ↦ inr w.if-mark.true ])

pub returns-clause-is : goal.returns-clause-is
returns-clause-is c =
    cut_whole c.args.bytes.now (mark_of c.in-Some.mark) _ _ c.if-is_empty.ensures c.in-Some.ensures c.if-mark-lt6.false c.if-mark.false c.split_at.ensures.front c.split_at.ensures.back
