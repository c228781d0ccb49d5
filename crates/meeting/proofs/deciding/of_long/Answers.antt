-- `deciding::of_long` meets its contract: by the sides of the second piece's ends. Assumes nothing.
use mathlib.Core.Path.{refl, ap, ◌∙◌}
use Rattle.meeting.specs.Meet.{meeting_said}
use Rattle.meeting.proofs.Laws.Found.{from_real, to_real, on_line_found, by_end_found, long_found, opposed_found}
use Rattle.meeting.proofs.deciding.of_long.Goals as goal

pub through-requires : goal.through-requires
through-requires c =
    let (A, B, i) = c.requires in
    (A, B, c.side_of-u.ensures, opposed_found _ _ _ _ _ c.in-Opposite.ensures c.side_of-u.ensures c.side_of-v.ensures refl)

pub returns-in-OneSide : goal.returns-in-OneSide
returns-in-OneSide c =
    long_found _ _ _ _ _ c.in-OneSide.ensures c.side_of-u.ensures c.side_of-v.ensures

pub returns-in-Opposite : goal.returns-in-Opposite
returns-in-Opposite c =
    c.through.ensures ∙ long_found _ _ _ _ _ c.in-Opposite.ensures c.side_of-u.ensures c.side_of-v.ensures

pub returns-in-FirstOn : goal.returns-in-FirstOn
returns-in-FirstOn c =
    let (A, B, i) = c.requires in
    ap meeting_said c.by_end.ensures ∙ by_end_found _ _ A B i _ (from_real _ B)
    ∙ long_found _ _ _ _ _ c.in-FirstOn.ensures c.side_of-u.ensures c.side_of-v.ensures

pub returns-in-SecondOn : goal.returns-in-SecondOn
returns-in-SecondOn c =
    let (A, B, i) = c.requires in
    ap meeting_said c.by_end-in-SecondOn.ensures ∙ by_end_found _ _ A B i _ (to_real _ B)
    ∙ long_found _ _ _ _ _ c.in-SecondOn.ensures c.side_of-u.ensures c.side_of-v.ensures

pub returns-in-BothOn : goal.returns-in-BothOn
returns-in-BothOn c =
    let (A, B, i) = c.requires in
    ap meeting_said c.on_line.ensures ∙ on_line_found _ _ A B i
    ∙ long_found _ _ _ _ _ c.in-BothOn.ensures c.side_of-u.ensures c.side_of-v.ensures
