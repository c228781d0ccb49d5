-- What stands at the start of the buffer grows by what one read gave.
use Rattle.std.proofs.Common.{rules, ◌≡◌, ℕ, ◌+◌, ◌-◌, ◌≤◌, List, ◌++◌, length, take, drop, sym, ap, ◌∙◌, subst, le_refl, drop_at, length-take-le}
use Rattle.std.proofs.lemmas.Slice.{take-put_mid_below}
use Rattle.std.proofs.lemmas.List.{take-append-le}
use Rattle.std.proofs.Math.Seq.{take-add}
use Rattle.std.specs.Io.KnownBytes.{Consumes}
use Rattle.std.proofs.KnownBytes.{Consumes-trans}
use borrow.Rule.Slice.PartMut.{put_mid, post_of}
use Rattle.system.proofs.files.filled.Goals as goal

-- the first n + k of a buffer into which k were read at n: its first n, and the first k that were read
take_read : (n k room : ℕ) (buf read : List ℕ) → n ≤ length buf → k ≤ length read → take (n + k) (put_mid n room buf read) ≡ take n buf ++ take k read
take_read n k room buf read within fits =
    let before : take n (put_mid n room buf read) ≡ take n buf = take-put_mid_below _ _ _ _ _ (le_refl _) within in
    let after : take k (drop n (put_mid n room buf read)) ≡ take k read =
    ap (take k) (drop_at (take n buf) (read ++ post_of n room buf) n (length-take-le n buf within))
    ∙ take-append-le k read (post_of n room buf) fits in
    take-add n k (put_mid n room buf read) ∙ ap (λ l. l ++ take k (drop n (put_mid n room buf read))) before ∙ ap (λ l. take n buf ++ l) after

pub loop-n-preserved : goal.loop-n-preserved
loop-n-preserved g c =
    let n = c.loop-n.n in
    let k = c.in-Ok.k in
    let within = c.loop-n.invariant.1 in
    let joined = take_read n k (length c.loop-n.buf - n) c.loop-n.buf c.read.new.buf within c.in-Ok.ensures.bound.0 in
    (search rules, search rules, subst (Consumes _ _) (sym joined) (Consumes-trans _ _ _ _ _ c.loop-n.invariant.2 c.in-Ok.ensures.bytes.0))
