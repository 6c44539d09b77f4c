-- `audit::windows::Stretch::fits` meets its contract: the wrapping difference is below the window's length exactly for a word of the window.
use Rattle.std.proofs.Common.{sym, arith}
use Rattle.audit.proofs.windows.Lists.{wrapped, in_range, fits_out, fits_no, fits_yes}
use Rattle.audit.proofs.windows.Stretch.fits.Goals as goal

pub returns-then-self-d : goal.returns-then-self-d
returns-then-self-d c =
    let s = c.args.self.now in
    sym
    (fits_out _ _ _ _ _ _ (wrapped c.args.k.0 6) _ s.ordered (omega arith) (omega arith) (omega arith)
    (omega arith) (omega (arith, s.ordered, s.short)) c.if-self-d.true)

pub returns-then-not-marked : goal.returns-then-not-marked
returns-then-not-marked c =
    let s = c.args.self.now in
    let r = in_range s.from s.to c.args.k.0 (wrapped c.args.k.0 6) _ s.ordered (omega (arith, s.short)) (omega arith) (omega arith) (omega arith)
    (omega arith) (omega (arith, s.ordered, s.short)) c.if-self-d.false in
    sym (fits_no _ _ _ _ _ _ _ _ r (sym c.if-not-marked.ensures))

pub returns : goal.returns
returns c =
    let s = c.args.self.now in
    let r = in_range s.from s.to c.args.k.0 (wrapped c.args.k.0 6) _ s.ordered (omega (arith, s.short)) (omega arith) (omega arith) (omega arith)
    (omega arith) (omega (arith, s.ordered, s.short)) c.if-self-d.false in
    sym (fits_yes _ _ _ _ _ _ _ _ r _ (sym c.if-not-marked.ensures) (rw c.at.ensures at c.chunk_size_to_list_index.ensures))
