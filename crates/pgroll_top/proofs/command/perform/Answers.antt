use Rattle.pgroll_top.proofs.Closing.{unread, unscripted, all_done, out_of_memory, quiet_read}
use Rattle.pgroll_top.proofs.command.perform.Goals as goal

pub returns-in-Err-clause-history : goal.returns-in-Err-clause-history
returns-in-Err-clause-history g c =
    let form = c.is_form.ensures.0 c.if-not-is_form.false in
    let closes = rw c.end_of_fault.ensures at c.close-in-Err.ensures.closes in
    unread _ _ _ _ c.in-Err.fault form c.in-Err.ensures.front c.in-Err.ensures.passed c.in-Err.ensures.failed c.in-Err.ensures.too_long closes

pub returns-in-Err-read_exec-clause-history : goal.returns-in-Err-read_exec-clause-history
returns-in-Err-read_exec-clause-history g c =
    let form = c.is_form.ensures.0 c.if-not-is_form.false in
    let quiet = quiet_read c.in-Ok.text c.in-Ok.ensures.passed in
    let closes = rw c.end_of_script.ensures at c.close-in-Err-read_exec.ensures.closes in
    unscripted _ _ _ _ c.in-Ok.text.items c.deref.result.now c.in-Err-read_exec.fault form (c.in-Ok.ensures.whole, c.in-Ok.ensures.short, quiet) c.deref.ensures.value c.in-Err-read_exec.ensures.reading closes

pub returns-in-Ok-work-clause-history : goal.returns-in-Ok-work-clause-history
returns-in-Ok-work-clause-history g c =
    let form = c.is_form.ensures.0 c.if-not-is_form.false in
    let quiet = quiet_read c.in-Ok.text c.in-Ok.ensures.passed in
    let closes = rw c.end_of_work.ensures at c.close-in-Ok-work.ensures.closes in
    all_done _ _ _ _ _ _ _ _ c.in-Ok.text.items c.deref.result.now c.in-Ok-read_exec.lines c.as_slice.result.now form (c.in-Ok.ensures.whole, c.in-Ok.ensures.short, quiet) c.deref.ensures.value c.in-Ok-read_exec.ensures.reading c.as_slice.ensures
    c.in-Ok-work.refused _ c.in-Ok-work.ensures.works closes

pub returns-in-Err-NoMemory-clause-history : goal.returns-in-Err-NoMemory-clause-history
returns-in-Err-NoMemory-clause-history g c =
    let form = c.is_form.ensures.0 c.if-not-is_form.false in
    let quiet = quiet_read c.in-Ok.text c.in-Ok.ensures.passed in
    let works = rw c.in-Err-NoMemory.field-0-is at c.in-Err-NoMemory.ensures.works in
    out_of_memory _ _ _ _ _ _ _ _ c.in-Ok.text.items c.deref.result.now c.in-Ok-read_exec.lines c.as_slice.result.now form (c.in-Ok.ensures.whole, c.in-Ok.ensures.short, quiet) c.deref.ensures.value c.in-Ok-read_exec.ensures.reading c.as_slice.ensures
    _ works c.close-in-Err-NoMemory.ensures.closes
