use Rattle.std.proofs.Common.{arith, ltb, rules}
use Rattle.std.proofs.lemmas.Bool.{ltb-false, ltb-true}
use Rattle.std.proofs.lemmas.List.Sorted.{IsPartitionPoint-from_clause, IsPartitionedBy-ltb}
use Rattle.ready_images.specs.StoredCorners.{no_corner}
use Rattle.ready_images.proofs.corners.first_of.Goals as goal

pub returns-clause-before : goal.returns-clause-before
returns-clause-before c =
    let parted = IsPartitionedBy-ltb (λ x. x.placement) c.args.corners.now c.args.placement c.requires in
    let point = IsPartitionPoint-from_clause (λ x. ltb x.placement c.args.placement) _ _ c.partition_point.ensures.partitioned parted (λ a r q k. search rules) in
    λ k less. ltb-true _ _ (point.0 k no_corner (omega arith) less)

pub returns-clause-from : goal.returns-clause-from
returns-clause-from c =
    let parted = IsPartitionedBy-ltb (λ x. x.placement) c.args.corners.now c.args.placement c.requires in
    let point = IsPartitionPoint-from_clause (λ x. ltb x.placement c.args.placement) _ _ c.partition_point.ensures.partitioned parted (λ a r q k. search rules) in
    λ k le lt. ltb-false _ _ (point.1 k no_corner le lt)
