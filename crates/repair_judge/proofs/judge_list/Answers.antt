-- `repair_judge::judge_list`. What is kept is weighed, whatever the size of the list.
use Rattle.repair_judge.proofs.Judging.{keep-asks, kept_in, kept-room, weigh-asks, judge-weighed}
use Rattle.repair_judge.proofs.judge_list.Goals as goal

pub keep-m-requires : goal.keep-m-requires
keep-m-requires c = keep-asks _ _ _ c.requires _ c.looked-n.ensures

pub slice_bounds-weigh-end : goal.slice_bounds-weigh-end
slice_bounds-weigh-end c = kept_in _ _ _ c.requires _ c.looked-n.ensures c.keep-m.new.out _ c.keep-m.ensures c.keep-m.auto.out

pub slice_bounds-weigh-end-2 : goal.slice_bounds-weigh-end-2
slice_bounds-weigh-end-2 c = kept-room _ _ _ c.requires _ c.looked-n.ensures c.keep-m.new.out _ c.keep-m.ensures c.keep-m.auto.out

pub weigh-requires : goal.weigh-requires
weigh-requires c = weigh-asks _ _ _ c.requires _ c.looked-n.ensures _ _ c.keep-m.ensures

pub returns-in-Ok : goal.returns-in-Ok
returns-in-Ok c = judge-weighed _ _ _ c.requires _ c.looked-n.ensures _ _ c.keep-m.ensures _ _ _ c.in-Ok.ensures

pub returns-in-Err : goal.returns-in-Err
returns-in-Err c = judge-weighed _ _ _ c.requires _ c.looked-n.ensures _ _ c.keep-m.ensures _ _ _ c.in-Err.ensures
