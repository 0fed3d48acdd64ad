use Rattle.wd_seek.proofs.Meeting.{meets_from_test, test_from_meets}
use Rattle.wd_seek.proofs.laws.test_decides_meeting.Goals as goal

pub returns : goal.returns
returns c tables instance = (meets_from_test tables instance, test_from_meets tables instance)
