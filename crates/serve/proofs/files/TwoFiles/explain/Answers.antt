-- By what was read of the zone, and of the releases.
use Rattle.serve.proofs.Laws.Explained.{no_corners, no_releases}
use Rattle.serve.proofs.files.TwoFiles.explain.Goals as goal

pub unexplained-requires : goal.unexplained-requires
unexplained-requires g c = no_corners _ _ c.in_default.ensures

pub unexplained-requires-in_default-points_of : goal.unexplained-requires-in_default-points_of
unexplained-requires-in_default-points_of g c = no_releases _ _ c.in_default-points_of.ensures
