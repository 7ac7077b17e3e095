use Rattle.std.proofs.Common.{refl, sym, subst}
use Rattle.kb_geometry.specs.declared.stone.Cell.TheVariants as stone
use Rattle.pattern_images.specs.declared.cell.PatternCell.{PatternCell}
use Rattle.pattern_images.specs.declared.cell.PatternCell.TheVariants as cell
use Rattle.candidate_sieve.specs.declared.asked.AskedPoints.{AskedPoints}
use Rattle.candidate_sieve.specs.Noting.{AreNoted, AsksOn}
use Rattle.candidate_sieve.proofs.NotedPoints.{noted-cell, set_in, set_left}
use Rattle.candidate_sieve.proofs.asked.AskedPoints.add_cell.Goals as goal

pub returns-in-Empty : goal.returns-in-Empty
returns-in-Empty c =
    let after : AskedPoints = record { empty = c.insert.new.self; black = c.args.self.now.black; white = c.args.self.now.white } in
    subst (λ (p : PatternCell). AreNoted c.args.self.now (AsksOn p c.args.point) after) (sym c.in-Empty.is)
    (noted-cell c.args.self.now after cell.Empty c.args.point
    (set_in cell.Empty stone.Empty c.args.point c.args.self.now.empty c.insert.new.self (λ e. absurd cc, refl) c.insert.ensures)
    (set_left cell.Empty stone.Black c.args.point c.args.self.now.black (λ asks. let e = asks.1 in absurd cc))
    (set_left cell.Empty stone.White c.args.point c.args.self.now.white (λ asks. let e = asks.1 in absurd cc)))

pub returns-in-Black : goal.returns-in-Black
returns-in-Black c =
    let after : AskedPoints = record { empty = c.args.self.now.empty; black = c.insert-in-Black.new.self; white = c.args.self.now.white } in
    subst (λ (p : PatternCell). AreNoted c.args.self.now (AsksOn p c.args.point) after) (sym c.in-Black.is)
    (noted-cell c.args.self.now after cell.Black c.args.point
    (set_left cell.Black stone.Empty c.args.point c.args.self.now.empty (λ asks. let e = asks.1 in absurd cc))
    (set_in cell.Black stone.Black c.args.point c.args.self.now.black c.insert-in-Black.new.self (λ e. absurd cc, refl) c.insert-in-Black.ensures)
    (set_left cell.Black stone.White c.args.point c.args.self.now.white (λ asks. let e = asks.1 in absurd cc)))

pub returns-in-White : goal.returns-in-White
returns-in-White c =
    let after : AskedPoints = record { empty = c.args.self.now.empty; black = c.args.self.now.black; white = c.insert-in-White.new.self } in
    subst (λ (p : PatternCell). AreNoted c.args.self.now (AsksOn p c.args.point) after) (sym c.in-White.is)
    (noted-cell c.args.self.now after cell.White c.args.point
    (set_left cell.White stone.Empty c.args.point c.args.self.now.empty (λ asks. let e = asks.1 in absurd cc))
    (set_left cell.White stone.Black c.args.point c.args.self.now.black (λ asks. let e = asks.1 in absurd cc))
    (set_in cell.White stone.White c.args.point c.args.self.now.white c.insert-in-White.new.self (λ e. absurd cc, refl) c.insert-in-White.ensures))

pub returns-in-NotWhite : goal.returns-in-NotWhite
returns-in-NotWhite c =
    let after : AskedPoints = record { empty = c.insert-in-NotWhite.new.self; black = c.insert-in-NotWhite-2.new.self; white = c.args.self.now.white } in
    subst (λ (p : PatternCell). AreNoted c.args.self.now (AsksOn p c.args.point) after) (sym c.in-NotWhite.is)
    (noted-cell c.args.self.now after cell.NotWhite c.args.point
    (set_in cell.NotWhite stone.Empty c.args.point c.args.self.now.empty c.insert-in-NotWhite.new.self (λ e. absurd cc, (λ e. absurd cc)) c.insert-in-NotWhite.ensures)
    (set_in cell.NotWhite stone.Black c.args.point c.args.self.now.black c.insert-in-NotWhite-2.new.self (λ e. absurd cc, (λ e. absurd cc)) c.insert-in-NotWhite-2.ensures)
    (set_left cell.NotWhite stone.White c.args.point c.args.self.now.white (λ asks. absurd (asks.1 refl))))

pub returns-in-NotBlack : goal.returns-in-NotBlack
returns-in-NotBlack c =
    let after : AskedPoints = record { empty = c.insert-in-NotBlack.new.self; black = c.args.self.now.black; white = c.insert-in-NotBlack-2.new.self } in
    subst (λ (p : PatternCell). AreNoted c.args.self.now (AsksOn p c.args.point) after) (sym c.in-NotBlack.is)
    (noted-cell c.args.self.now after cell.NotBlack c.args.point
    (set_in cell.NotBlack stone.Empty c.args.point c.args.self.now.empty c.insert-in-NotBlack.new.self (λ e. absurd cc, (λ e. absurd cc)) c.insert-in-NotBlack.ensures)
    (set_left cell.NotBlack stone.Black c.args.point c.args.self.now.black (λ asks. absurd (asks.1 refl)))
    (set_in cell.NotBlack stone.White c.args.point c.args.self.now.white c.insert-in-NotBlack-2.new.self (λ e. absurd cc, (λ e. absurd cc)) c.insert-in-NotBlack-2.ensures))
