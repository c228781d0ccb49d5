-- The header and each line are pieces of what is printed.
use Rattle.serve.proofs.Laws.Explained.{explained_zoned, explained_accepted, explained_header, explained_line}
use Rattle.serve.proofs.files.TwoFiles.explain_all.Goals as goal

pub print_header-requires : goal.print_header-requires
print_header-requires g c = explained_header _ _ _ c.requires

pub print_reason-requires : goal.print_reason-requires
print_reason-requires g c = (
  explained_zoned _ _ _ c.requires,
  explained_accepted _ _ _ c.requires _ c.loop-i-test.true,
  explained_line _ _ _ c.requires _ c.loop-i-test.true,
)
