mod Asking
mod Losing
mod Refusals
mod Trials
