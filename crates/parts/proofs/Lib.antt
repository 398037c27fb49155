mod Joined
mod Swept
