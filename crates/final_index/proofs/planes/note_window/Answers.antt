use Rattle.std.proofs.Common.{◌≡◌, ◌<◌, ◌+◌, ◌^◌, ℕ, refl, sym, arith}
use Rattle.std.specs.Int.{w64, trailing_zeros}
use Rattle.std.proofs.Math.Nat.{div-one}
use Rattle.std.proofs.lemmas.Nat.{shr-shr}
use Rattle.final_index.proofs.NotedBits.{IsBehind-end, IsBehind-more, IsBehind-start, next_bit-found, next_bit-within}
use Rattle.final_index.proofs.planes.note_window.Goals as goal

pub loop-rest-init : goal.loop-rest-init
loop-rest-init c = record {
  most = omega arith;
  left = sym (div-one c.args.bits);
  gained = IsBehind-start c.args.first c.args.bits c.args.game c.args.words.now;
}

pub overflow_add-at : goal.overflow_add-at
overflow_add-at c =
    let next = next_bit-found c.args.bits c.loop-rest.from c.loop-rest.rest (omega arith) c.loop-rest.invariant.left (omega arith) in
    omega (arith, next.below)

pub overflow_add-words : goal.overflow_add-words
overflow_add-words c =
    let inside = next_bit-within c.args.bits c.loop-rest.from c.loop-rest.rest (omega arith) c.loop-rest.invariant.left (omega arith)
    c.args.first c.args.words.now c.loop-rest.words c.requires.within c.loop-rest.invariant.gained.room in
    omega arith

pub offset_bounds-words-first : goal.offset_bounds-words-first
offset_bounds-words-first c =
    let inside = next_bit-within c.args.bits c.loop-rest.from c.loop-rest.rest (omega arith) c.loop-rest.invariant.left (omega arith)
    c.args.first c.args.words.now c.loop-rest.words c.requires.within c.loop-rest.invariant.gained.room in
    omega arith

pub bounds-words-first : goal.bounds-words-first
bounds-words-first c =
    next_bit-within c.args.bits c.loop-rest.from c.loop-rest.rest (omega arith) c.loop-rest.invariant.left (omega arith)
    c.args.first c.args.words.now c.loop-rest.words c.requires.within c.loop-rest.invariant.gained.room

pub bounds-words-first-in-loop-rest : goal.bounds-words-first-in-loop-rest
bounds-words-first-in-loop-rest c =
    next_bit-within c.args.bits c.loop-rest.from c.loop-rest.rest (omega arith) c.loop-rest.invariant.left (omega arith)
    c.args.first c.args.words.now c.loop-rest.words c.requires.within c.loop-rest.invariant.gained.room

pub overflow_shr-rest : goal.overflow_shr-rest
overflow_shr-rest c =
    (next_bit-found c.args.bits c.loop-rest.from c.loop-rest.rest (omega arith) c.loop-rest.invariant.left (omega arith)).below

pub loop-rest-smaller : goal.loop-rest-smaller
loop-rest-smaller c =
    let next = next_bit-found c.args.bits c.loop-rest.from c.loop-rest.rest (omega arith) c.loop-rest.invariant.left (omega arith) in
    omega (arith, next.below, next.from_on)

pub loop-rest-preserved : goal.loop-rest-preserved
loop-rest-preserved c =
    let fits : c.args.bits < 2 ^ 64 = omega arith in
    let some : 0 < c.loop-rest.rest = omega arith in
    let next = next_bit-found c.args.bits c.loop-rest.from c.loop-rest.rest fits c.loop-rest.invariant.left some in
    let below = next.below in
    let at : ℕ = c.loop-rest.from + trailing_zeros w64 c.loop-rest.rest in
    let room = c.loop-rest.invariant.gained.room in
    let inside = c.requires.within at below next.there in
    record {
      most = omega arith;
      left = shr-shr c.args.bits at 1;
      gained = IsBehind-more c.args.first c.args.bits c.args.game c.args.words.now c.loop-rest.from c.loop-rest.rest at c.loop-rest.words fits c.loop-rest.invariant.left c.loop-rest.invariant.gained next (c.args.first + at) refl (omega arith) c.requires.few;
    }

pub returns : goal.returns
returns c =
    let fits : c.args.bits < 2 ^ 64 = omega arith in
    let none : c.loop-rest.rest ≡ 0 = omega arith in
    IsBehind-end c.args.first c.args.bits c.args.game c.args.words.now c.loop-rest.from c.loop-rest.rest c.loop-rest.words fits c.loop-rest.invariant.left none c.loop-rest.invariant.most c.loop-rest.invariant.gained
